use Rattle.std.proofs.Common.{◌≡◌, ◌+◌, ◌*◌, Bool, List, length}
use Rattle.source_sheet.specs.Holding.{HasHeldFirst}
use Rattle.source_sheet.proofs.holding.mark_held_row.Given as goal

abbrev pub invariant-loop-column : goal.invariant-loop-column
invariant-loop-column l = record {
  one_each : length l.marks ≡ length l.fn.marks;
  held : (first : List Bool) → HasHeldFirst l.plane l.sheet l.choice.threshold l.place (l.row * l.place.shape.width) first l.fn.marks
      → HasHeldFirst l.plane l.sheet l.choice.threshold l.place (l.row * l.place.shape.width + l.column) first l.marks;
}
