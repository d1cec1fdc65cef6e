use Rattle.std.proofs.Common.{◌≡◌, ◌*◌, length}
use Rattle.fits_write.specs.CatalogueColumns.{cells_in_row}
use Rattle.survey_core.specs.Tables.{IsNumbered}
use Rattle.survey_sqlite.proofs.keeper_tests.numbered.Given as goal

abbrev pub invariant-loop-row : goal.invariant-loop-row
invariant-loop-row l = IsNumbered l.cells.items × (length l.cells.items ≡ cells_in_row * l.row)
