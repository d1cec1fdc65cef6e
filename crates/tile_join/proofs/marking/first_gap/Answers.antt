use Rattle.std.proofs.Common.{arith}
use Rattle.tile_join.proofs.marking.first_gap.Goals as goal

pub returns : goal.returns
returns c = let e = c.loop-p-test.false in λ p l. c.loop-p.invariant p (omega arith)
