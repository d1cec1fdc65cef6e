use Rattle.tile_join.specs.Places.{AreFirstWritten}
use Rattle.tile_join.proofs.writing.write_numbers.Given as goal

abbrev pub invariant-loop-q : goal.invariant-loop-q
invariant-loop-q l = AreFirstWritten l.whole.width l.tile l.table l.q l.fn.map l.map
