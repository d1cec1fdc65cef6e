use Rattle.fits_back.proofs.Cells.{TableLaws}
use Rattle.fits_back.proofs.Apart.{tables_told}
use Rattle.fits_back.proofs.laws.tables_are_told_apart.Goals as goal

pub returns : goal.returns
returns c =
    let laws : TableLaws = record { read_back = c.written_cells_are_read_back.ensures.table; size = c.written_cells_are_read_back.ensures.size } in
    tables_told c.integer_is_read_back.ensures.integer laws
