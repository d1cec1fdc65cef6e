-- The first sources are there, as those of the plane.
use Rattle.source_sheet.proofs.WithTops.{AreFirstBack}
use Rattle.source_sheet.proofs.tops.sources_back.Given as goal

abbrev pub invariant-loop-place : goal.invariant-loop-place
invariant-loop-place l = AreFirstBack l.whole.width l.onto.width l.tree l.taken l.place l.sources.items
