use Rattle.std.proofs.Common.{◌≡◌, ◌++◌}
use Rattle.fits_write.specs.Columns.{IsTable}
use Rattle.fits_write.specs.Hdus.{named_hdu}
use Rattle.fits_back.specs.declared.table.SplitTable.{SplitTable}
use Rattle.fits_back.specs.TableRows.{StandAsRows, BeginsWithNoRows}
use Rattle.fits_back.proofs.Apart.{BeginsWithNoTable, table_here, none_announced, no_table_header, no_table_rows, found_along, none_along}
use Rattle.fits_back.proofs.table.split_table.Goals as goal

pub returns-in_default-clause-none : goal.returns-in_default-clause-none
returns-in_default-clause-none c =
    none_announced c.integer_is_read_back.ensures.integer c.args.name.now c.args.columns.now c.args.bytes.now c.in_default.ensures

pub returns-in_default-strip_table_header-clause-none : goal.returns-in_default-strip_table_header-clause-none
returns-in_default-strip_table_header-clause-none c =
    no_table_header c.integer_is_read_back.ensures.integer c.args.name.now c.args.columns.now c.args.bytes.now c.in-Some.rows c.in-Some.ensures.1
    c.in_default-strip_table_header.ensures

pub returns-clause-some : goal.returns-clause-some
returns-clause-some c =
    let name = c.args.name.now in
    let columns = c.args.columns.now in
    let bytes = c.args.bytes.now in
    let behind = c.in-Some-strip_table_header.behind.now in
    let rows = c.in-Some.rows in
    found_along _ (λ (split : SplitTable). StandAsRows columns rows behind split.cells.items split.rest.now)
    (λ split. (bytes ≡ named_hdu name columns split.cells.items ++ split.rest.now) × IsTable columns split.cells.items)
    (λ split are. (table_here name columns rows bytes behind split.rest.now split.cells.items c.in-Some-strip_table_header.ensures are, are.table))
    c.split_rows.ensures.some

pub returns-clause-none : goal.returns-clause-none
returns-clause-none c =
    let name = c.args.name.now in
    let columns = c.args.columns.now in
    let bytes = c.args.bytes.now in
    let behind = c.in-Some-strip_table_header.behind.now in
    none_along _ (BeginsWithNoRows columns c.in-Some.rows behind) (BeginsWithNoTable name columns bytes)
    (no_table_rows c.integer_is_read_back.ensures.integer name columns bytes behind c.in-Some.rows c.in-Some.ensures.1 c.in-Some-strip_table_header.ensures)
    c.split_rows.ensures.none
