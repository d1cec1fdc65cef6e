-- The rows so far are read.
use Rattle.std.proofs.Common.{◌≡◌}
use Rattle.fits_write.specs.Rows.{table_cells}
use Rattle.fits_back.proofs.table.read_rows.Given as goal

abbrev pub invariant-loop-row : goal.invariant-loop-row
invariant-loop-row l = l.cells.items ≡ table_cells l.columns l.bytes l.row
