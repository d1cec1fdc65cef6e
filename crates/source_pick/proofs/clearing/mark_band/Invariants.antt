use Rattle.std.proofs.Common.{◌*◌}
use Rattle.source_pick.specs.Clearing.{AreMarkedNear}
use Rattle.source_pick.proofs.clearing.mark_band.Given as goal

abbrev pub invariant-loop-row : goal.invariant-loop-row
invariant-loop-row l = AreMarkedNear l.plane l.connect l.threshold l.start (l.first * l.plane.shape.width) (l.row * l.plane.shape.width) l.marks
