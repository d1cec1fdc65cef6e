-- The boxes so far have the cells before the rest.
use Rattle.std.proofs.Common.{◌≡◌, ◌++◌, flat_map, length}
use Rattle.std.specs.List.{AllByRecursion}
use Rattle.tile_file.specs.TileFiles.{box_cells, HasEndsWithin}
use Rattle.tile_file.proofs.frames.boxes_of.Given as goal

abbrev pub invariant-loop-rest : goal.invariant-loop-rest
invariant-loop-rest l = record { written : l.cells ≡ flat_map box_cells l.boxes.items ++ l.rest; ends : AllByRecursion HasEndsWithin l.boxes.items }

abbrev pub decreases-loop-rest : goal.decreases-loop-rest
decreases-loop-rest l = length l.rest
