use Rattle.std.proofs.Common.{◌∙◌, ℕ, ◌*◌, ap, arith, w8}
use Rattle.std.proofs.Math.Facts.{Fits-lt-pow}
use Rattle.fits_back.proofs.Cells.{TableLaws, rows_here, rows_cut}
use Rattle.fits_back.proofs.table.split_rows.Goals as goal

pub returns-then-bytes-size-clause-none : goal.returns-then-bytes-size-clause-none
returns-then-bytes-size-clause-none c =
    let laws : TableLaws = record { read_back = c.written_cells_are_read_back.ensures.table; size = c.written_cells_are_read_back.ensures.size } in
    rows_cut laws c.args.columns.now c.args.bytes.now c.row_size-size.result c.args.rows c.row_size-size.ensures.size
    (omega (arith, c.row_size-size.ensures.least, c.requires.some_columns)) c.if-bytes-size.true

pub returns-in-Ok-clause-some : goal.returns-in-Ok-clause-some
returns-in-Ok-clause-some c =
    let laws : TableLaws = record { read_back = c.written_cells_are_read_back.ensures.table; size = c.written_cells_are_read_back.ensures.size } in
    rows_here laws c.args.columns.now c.args.bytes.now c.in-Some.split.bytes.now c.in-Some.split.rest.now c.in-Ok.cells.items c.args.rows c.requires.some_columns
    c.requires.few_columns c.requires.plain_names c.requires.few_rows (λ k. Fits-lt-pow {w = w8} (c.type_inv.bytes k))
    (c.in-Some.ensures.1 ∙ ap (λ (n : ℕ). n * c.args.rows) c.row_size-size.ensures.size) c.in-Some.ensures.0 c.in-Ok.ensures
