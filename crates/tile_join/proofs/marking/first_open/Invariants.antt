use Rattle.tile_join.specs.Marks.{AreKnown}
use Rattle.tile_join.proofs.marking.first_open.Given as goal

abbrev pub invariant-loop-i : goal.invariant-loop-i
invariant-loop-i l = AreKnown l.tiles l.i
