use Rattle.tile_join.specs.Marks.{AreFitting}
use Rattle.tile_join.proofs.marking.first_unfit.Given as goal

abbrev pub invariant-loop-i : goal.invariant-loop-i
invariant-loop-i l = AreFitting l.whole l.tiles l.i
