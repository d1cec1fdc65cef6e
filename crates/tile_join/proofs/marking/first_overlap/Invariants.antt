use Rattle.tile_join.specs.Marks.{AreCoresMarked}
use Rattle.tile_join.proofs.marking.first_overlap.Given as goal

abbrev pub invariant-loop-i : goal.invariant-loop-i
invariant-loop-i l = AreCoresMarked l.whole.width l.tiles l.i l.marks
