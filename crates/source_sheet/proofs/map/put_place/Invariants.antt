use Rattle.source_sheet.specs.Backs.{ArePutIn}
use Rattle.source_sheet.proofs.map.put_place.Given as goal

abbrev pub invariant-loop-q : goal.invariant-loop-q
invariant-loop-q l = ArePutIn l.whole.width l.onto.width l.place l.numbers l.q l.fn.map l.map
