use Rattle.source_sheet.specs.Backs.{AreTakenTo}
use Rattle.source_sheet.proofs.map.put_places.Given as goal

abbrev pub invariant-loop-place : goal.invariant-loop-place
invariant-loop-place l = AreTakenTo l.whole.width l.onto.width l.places l.numbers l.place-index l.map
