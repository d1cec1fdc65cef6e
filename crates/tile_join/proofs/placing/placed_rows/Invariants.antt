use Rattle.std.proofs.Common.{◌≡◌, map, take}
use Rattle.tile_join.specs.Tiles.{rows_of_tiles}
use Rattle.tile_join.specs.Places.{placed_row}
use Rattle.tile_join.proofs.placing.placed_rows.Given as goal

abbrev pub invariant-loop-tile : goal.invariant-loop-tile
invariant-loop-tile l = l.placed.items ≡ map (placed_row l.whole.width) (rows_of_tiles (take l.tile-index l.tiles))
