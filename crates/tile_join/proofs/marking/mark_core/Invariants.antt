use Rattle.tile_join.specs.Marks.{AreFirstMarked}
use Rattle.tile_join.proofs.marking.mark_core.Given as goal

abbrev pub invariant-loop-q : goal.invariant-loop-q
invariant-loop-q l = AreFirstMarked l.whole.width l.core l.q l.fn.marks l.marks
