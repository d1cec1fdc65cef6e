-- The tiles so far have the bytes before the rest.
use Rattle.std.proofs.Common.{◌≡◌, ◌++◌, length}
use Rattle.std.specs.List.{AllByRecursion}
use Rattle.tile_file.specs.TileFiles.{bytes_of_tiles, IsTileFile}
use Rattle.tile_file.proofs.reading.split_tiles.Given as goal

abbrev pub invariant-loop-rest : goal.invariant-loop-rest
invariant-loop-rest l = record { written : l.bytes ≡ bytes_of_tiles l.tiles.items ++ l.rest; fit : AllByRecursion IsTileFile l.tiles.items }

abbrev pub decreases-loop-rest : goal.decreases-loop-rest
decreases-loop-rest l = length l.rest
