-- The cells of the rows so far.
use Rattle.std.proofs.Common.{◌≡◌, take, flat_map}
use Rattle.source_pick.specs.Catalogue.{cells_of}
use Rattle.tile_file.proofs.rows.row_cells.Given as goal

abbrev pub invariant-loop-row : goal.invariant-loop-row
invariant-loop-row l = l.table.items ≡ flat_map cells_of (take l.row-index l.rows)
