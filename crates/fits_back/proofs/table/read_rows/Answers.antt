use Rattle.fits_back.proofs.Cells.{row_read}
use Rattle.fits_back.proofs.table.read_rows.Goals as goal

pub loop-row-preserved : goal.loop-row-preserved
loop-row-preserved c =
    row_read c.args.columns.now c.args.bytes.now c.loop-row.row c.row_size-size.result c.loop-row.cells.items _ c.row_size-size.ensures.size c.loop-row.invariant
    c.in_ok-add_row.ensures
