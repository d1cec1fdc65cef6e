-- The cells of the columns so far are read, and the other bytes are left.
use Rattle.std.proofs.Common.{◌≡◌, ◌≤◌, ◌++◌, length, drop}
use Rattle.fits_write.specs.Columns.{row_size}
use Rattle.fits_write.specs.Rows.{row_cells}
use Rattle.fits_write.proofs.rows.add_row.Given as goal

abbrev pub invariant-loop-column : goal.invariant-loop-column
invariant-loop-column l = record {
  so_far : l.cells.items ++ row_cells (drop l.column-index l.columns) l.rest ≡ l.fn.cells.items ++ row_cells l.columns l.bytes;
  enough : row_size (drop l.column-index l.columns) ≤ length l.rest;
}
