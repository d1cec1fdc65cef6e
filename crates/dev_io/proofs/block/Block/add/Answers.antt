use Rattle.dev_io.proofs.block.Block.add.Goals as goal
use Rattle.dev_io.proofs.Blocks.{cut_before_rest}

pub returns-in_err-put_filled-clause-err : goal.returns-in_err-put_filled-clause-err
returns-in_err-put_filled-clause-err g c =
    cut_before_rest _ _ _ _ _ _ _ _ c.split_at.ensures.front c.split_at.ensures.back c.in_err-put_filled.ensures.err
