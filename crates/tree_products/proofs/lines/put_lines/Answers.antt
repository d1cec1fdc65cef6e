use Rattle.dev_io.proofs.Exported.{front_empty}
use Rattle.command_line.proofs.Exported.{line_flushed}
use Rattle.tree_products.proofs.lines.put_lines.Goals as goal

pub returns-in-Err-clause-bytes : goal.returns-in-Err-clause-bytes
returns-in-Err-clause-bytes g c = front_empty _ _ _ _ c.new-block.ensures c.in-Err.ensures.err

pub returns-clause-bytes : goal.returns-clause-bytes
returns-clause-bytes g c =
    line_flushed _ _ _ _ _ _ _ _ c.new-block.ensures c.in_default.ensures.ok c.flush.ensures.ok c.flush.ensures.empty c.flush.ensures.err
