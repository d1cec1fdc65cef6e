-- The cells of the boxes so far stand behind those before them.
use Rattle.std.proofs.Common.{◌≡◌, ◌++◌, take, flat_map}
use Rattle.tile_file.specs.TileFiles.{box_cells}
use Rattle.tile_file.proofs.frames.add_boxes.Given as goal

abbrev pub invariant-loop-extent : goal.invariant-loop-extent
invariant-loop-extent l = l.cells.items ≡ l.fn.cells.items ++ flat_map box_cells (take l.extent-index l.boxes)
