-- The lemmas of this crate that crates above use. Its other modules of lemmas are its own.

-- a row has a cell for each column; the cells of n + 1 rows are those of n rows, and behind them those of the next one
pub use Rattle.fits_write.proofs.RowByRow.{length-row_cells, table_cells-more}
-- columns that a table can have: those of the catalogue, and those with measures
pub use Rattle.fits_write.proofs.Tables.{AreColumns, catalogue_are_columns, measured_are_columns}
-- cells that can be written: none; a row whose numbers fit their columns one by one; two tables one behind the other
pub use Rattle.fits_write.proofs.Tables.{FitEach, no_rows, one_row, tables_joined}
-- the rows that are made of values, each of which fits the columns: how many cells they have, and that they can be written
pub use Rattle.fits_write.proofs.Tables.{cells_of_rows, rows_are_table}
