use Rattle.fits_write.proofs.ReadBack.{row_read_back, table_read_back, table_size}
use Rattle.fits_write.proofs.laws.written_cells_are_read_back.Goals as goal

pub returns-clause-row : goal.returns-clause-row
returns-clause-row c = row_read_back

pub returns-clause-table : goal.returns-clause-table
returns-clause-table c = table_read_back

pub returns-clause-size : goal.returns-clause-size
returns-clause-size c = table_size
