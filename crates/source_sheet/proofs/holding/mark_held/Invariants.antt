use Rattle.std.proofs.Common.{◌*◌}
use Rattle.source_sheet.specs.Holding.{HasHeldFirst}
use Rattle.source_sheet.proofs.holding.mark_held.Given as goal

abbrev pub invariant-loop-row : goal.invariant-loop-row
invariant-loop-row l = HasHeldFirst l.plane l.sheet l.choice.threshold l.place (l.row * l.place.shape.width) l.fn.marks l.marks
