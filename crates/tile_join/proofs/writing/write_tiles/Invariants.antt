use Rattle.std.proofs.Common.{take}
use Rattle.tile_join.specs.Places.{AreJoinedNumbers}
use Rattle.tile_join.proofs.writing.write_tiles.Given as goal

abbrev pub invariant-loop-tile : goal.invariant-loop-tile
invariant-loop-tile l = AreJoinedNumbers l.whole l.tiles (take l.tile-index l.tiles) l.map
