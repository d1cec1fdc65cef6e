use Rattle.source_sheet.specs.Laid.{windows_of}
use Rattle.source_sheet.specs.Backs.{AreMarkedIn}
use Rattle.source_sheet.proofs.back.mark_owner.Given as goal

abbrev pub invariant-loop-q : goal.invariant-loop-q
invariant-loop-q l = AreMarkedIn l.onto.width (windows_of l.place).to l.number l.q l.fn.owners l.owners
