use Rattle.tile_file.proofs.Apart.{plain_table, no_box_table, boxes_found, no_tile_boxes}
use Rattle.tile_file.proofs.parts.split_boxes.Goals as goal

pub split_table-requires-clause-plain_names : goal.split_table-requires-clause-plain_names
split_table-requires-clause-plain_names c = plain_table c.box_columns.result c.box_columns.ensures

pub returns-in_default-clause-none : goal.returns-in_default-clause-none
returns-in_default-clause-none c =
    let none = rw c.in_default.is at c.in_ok-table.ensures.none in
    no_box_table c.box_columns.result c.args.bytes.now c.box_columns.ensures none

pub returns-in-Some-2-clause-bytes : goal.returns-in-Some-2-clause-bytes
returns-in-Some-2-clause-bytes c =
    let table = rw c.in-Some.is at c.in_ok-table.ensures.some in
    let boxes = rw c.in-Some-2.is at c.in_ok-boxes.ensures.some in
    boxes_found c.box_columns.result c.args.bytes.now c.in-Some.table.rest.now c.in-Some.table.cells.items c.deref.result.now _ _ _ _ c.box_columns.ensures
    table.0
    c.deref.ensures.value boxes.0

pub returns-clause-none : goal.returns-clause-none
returns-clause-none c =
    let table = rw c.in-Some.is at c.in_ok-table.ensures.some in
    let none = rw c.in-None.is at c.in_ok-boxes.ensures.none in
    no_tile_boxes c.tables_are_told_apart.ensures c.box_columns.result c.args.bytes.now c.in-Some.table.rest.now c.in-Some.table.cells.items c.deref.result.now
    c.box_columns.ensures table.0 table.1 c.deref.ensures.value none
