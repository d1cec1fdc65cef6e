use Rattle.source_sheet.specs.Laid.{windows_of}
use Rattle.source_sheet.specs.Checks.{AreWithin}
use Rattle.source_sheet.proofs.checking.stay_within.Given as goal

abbrev pub invariant-loop-x : goal.invariant-loop-x
invariant-loop-x l = AreWithin l.plane l.sheet l.connect (windows_of l.place) l.row l.first l.x
