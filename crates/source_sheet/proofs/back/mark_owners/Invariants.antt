use Rattle.source_sheet.specs.Backs.{AreOwners}
use Rattle.source_sheet.proofs.back.mark_owners.Given as goal

abbrev pub invariant-loop-i : goal.invariant-loop-i
invariant-loop-i l = AreOwners l.onto.width l.places l.i l.owners
