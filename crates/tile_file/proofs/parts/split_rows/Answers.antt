use Rattle.tile_file.proofs.Apart.{plain_catalogue, no_row_table, rows_found, rows_fit}
use Rattle.tile_file.proofs.parts.split_rows.Goals as goal

pub split_table-requires-clause-plain_names : goal.split_table-requires-clause-plain_names
split_table-requires-clause-plain_names c = plain_catalogue c.catalogue_columns.result c.catalogue_columns.ensures.columns

pub returns-in_default-clause-none : goal.returns-in_default-clause-none
returns-in_default-clause-none c =
    let none = rw c.in_default.is at c.in_ok-table.ensures.none in
    no_row_table c.catalogue_columns.result c.args.bytes.now c.catalogue_columns.ensures.columns none

pub returns-clause-bytes : goal.returns-clause-bytes
returns-clause-bytes c =
    let table = rw c.in-Some.is at c.in_ok-table.ensures.some in
    rows_found c.catalogue_columns.result c.args.bytes.now c.in-Some.table.rest.now c.in-Some.table.cells.items c.deref.result.now c.in_ok-rows.rows.items
    c.catalogue_columns.ensures.columns table.0 c.deref.ensures.value c.in_ok-rows.ensures.cells

pub returns-clause-fit : goal.returns-clause-fit
returns-clause-fit c =
    let table = rw c.in-Some.is at c.in_ok-table.ensures.some in
    rows_fit c.catalogue_columns.result c.in-Some.table.cells.items c.deref.result.now c.in_ok-rows.rows.items c.catalogue_columns.ensures.columns table.1
    c.deref.ensures.value c.in_ok-rows.ensures.cells c.in_ok-rows.ensures.whole
