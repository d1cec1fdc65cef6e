use Rattle.command_line.proofs.LineLemmas.{line_flushed}
use Rattle.command_line.proofs.lines.put_line.Goals as goal

pub returns-clause-bytes : goal.returns-clause-bytes
returns-clause-bytes g c =
    line_flushed _ _ _ _ _ _ _ _ c.new-block.ensures c.in_ok-add_all.ensures.ok c.flush.ensures.ok c.flush.ensures.empty c.flush.ensures.err
