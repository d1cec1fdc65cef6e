-- The size of the columns so far.
use Rattle.std.proofs.Common.{◌≡◌, ◌*◌, ◌≤◌, take}
use Rattle.fits_write.specs.Columns.{row_size}
use Rattle.fits_back.proofs.table.row_size.Given as goal

abbrev pub invariant-loop-column : goal.invariant-loop-column
invariant-loop-column l = record {
  so_far : l.size ≡ row_size (take l.column-index l.columns);
  least : 4 * l.column-index ≤ l.size;
  most : l.size ≤ 8 * l.column-index;
}
