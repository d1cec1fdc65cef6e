use Rattle.std.proofs.Common.{ℕ, ◌+◌, ◌*◌}
use Rattle.source_pick.specs.Clearing.{AreMarkedNear}
use Rattle.source_pick.proofs.clearing.mark_row.Given as goal

abbrev pub invariant-loop-column : goal.invariant-loop-column
invariant-loop-column l = (first : ℕ) → AreMarkedNear l.plane l.connect l.threshold l.start first (l.row * l.plane.shape.width) l.fn.marks
    → AreMarkedNear l.plane l.connect l.threshold l.start first (l.row * l.plane.shape.width + l.column) l.marks
