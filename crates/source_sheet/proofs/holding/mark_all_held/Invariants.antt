use Rattle.source_sheet.specs.Holding.{AreHeldApart}
use Rattle.source_sheet.proofs.holding.mark_all_held.Given as goal

abbrev pub invariant-loop-place : goal.invariant-loop-place
invariant-loop-place l = AreHeldApart l.plane l.sheet l.choice.threshold l.places l.place-index l.marks
