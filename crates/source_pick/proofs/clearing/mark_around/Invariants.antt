use Rattle.std.proofs.Common.{◌+◌, ◌*◌}
use Rattle.source_pick.specs.Clearing.{AreSetAround}
use Rattle.source_pick.proofs.clearing.mark_around.Given as goal

abbrev pub invariant-loop-row : goal.invariant-loop-row
invariant-loop-row l = AreSetAround l.connect l.shape.width (l.y * l.shape.width + l.x) l.start (l.row * l.shape.width) l.fn.marks l.marks
