use Rattle.std.proofs.Common.{◌-◌, ◌<◌, length, get_or, arith}
use Rattle.std.proofs.lemmas.Option.{slice_get-get_or}
use Rattle.tile_join.specs.Places.{rows_of_placed}
use Rattle.tile_join.proofs.Firsts.{zero_row, IsCast, cast_number}
use Rattle.tile_join.proofs.Numbers.{table_none, table_next}
use Rattle.tile_join.proofs.writing.fill_table.Goals as goal

pub loop-k-init : goal.loop-k-init
loop-k-init c =
    table_none c.args.whole.width (rows_of_placed c.args.placed.now) c.args.rows.now (length c.args.rows.now) c.args.table.now c.requires.blank (omega arith)

pub number_among-number-requires-clause-first : goal.number_among-number-requires-clause-first
number_among-number-requires-clause-first c =
    let l : c.loop-k.k - 1 < length c.args.rows.now = omega (arith, c.loop-k-test.true, c.loop-k.auto.k) in
    c.requires.firsts (c.loop-k.k - 1) _ (slice_get-get_or c.args.rows.now (c.loop-k.k - 1) zero_row l)

pub overflow_cast-table : goal.overflow_cast-table
overflow_cast-table c =
    let l : c.loop-k.k - 1 < length c.args.rows.now = omega (arith, c.loop-k-test.true, c.loop-k.auto.k) in
    let g = slice_get-get_or c.args.rows.now (c.loop-k.k - 1) zero_row l in
    let n = c.requires.numbers.3 (c.loop-k.k - 1) _ g in
    let z : IsCast (get_or c.args.rows.now (c.loop-k.k - 1) zero_row).number c.requires.numbers.0 =
    cast_number (get_or c.args.rows.now (c.loop-k.k - 1) zero_row).number c.requires.numbers.0 n.0 n.1 c.requires.numbers.2 in
    z.fits

pub offset_bounds-table-row : goal.offset_bounds-table-row
offset_bounds-table-row c =
    let l : c.loop-k.k - 1 < length c.args.rows.now = omega (arith, c.loop-k-test.true, c.loop-k.auto.k) in
    let g = slice_get-get_or c.args.rows.now (c.loop-k.k - 1) zero_row l in
    let n = c.requires.numbers.3 (c.loop-k.k - 1) _ g in
    let z : IsCast (get_or c.args.rows.now (c.loop-k.k - 1) zero_row).number c.requires.numbers.0 =
    cast_number (get_or c.args.rows.now (c.loop-k.k - 1) zero_row).number c.requires.numbers.0 n.0 n.1 c.requires.numbers.2 in
    omega (arith, z.high, c.requires.numbers.2)

pub bounds-table-row : goal.bounds-table-row
bounds-table-row c =
    let l : c.loop-k.k - 1 < length c.args.rows.now = omega (arith, c.loop-k-test.true, c.loop-k.auto.k) in
    let g = slice_get-get_or c.args.rows.now (c.loop-k.k - 1) zero_row l in
    let n = c.requires.numbers.3 (c.loop-k.k - 1) _ g in
    let z : IsCast (get_or c.args.rows.now (c.loop-k.k - 1) zero_row).number c.requires.numbers.0 =
    cast_number (get_or c.args.rows.now (c.loop-k.k - 1) zero_row).number c.requires.numbers.0 n.0 n.1 c.requires.numbers.2 in
    omega (arith, z.high, c.requires.numbers.1, c.loop-k.auto.table)

pub loop-k-preserved : goal.loop-k-preserved
loop-k-preserved c =
    let l : c.loop-k.k - 1 < length c.args.rows.now = omega (arith, c.loop-k-test.true, c.loop-k.auto.k) in
    let g = slice_get-get_or c.args.rows.now (c.loop-k.k - 1) zero_row l in
    let n = c.requires.numbers.3 (c.loop-k.k - 1) _ g in
    let z : IsCast (get_or c.args.rows.now (c.loop-k.k - 1) zero_row).number c.requires.numbers.0 =
    cast_number (get_or c.args.rows.now (c.loop-k.k - 1) zero_row).number c.requires.numbers.0 n.0 n.1 c.requires.numbers.2 in
    table_next c.args.whole.width (rows_of_placed c.args.placed.now) c.args.rows.now c.loop-k.k (get_or c.args.rows.now (c.loop-k.k - 1) zero_row) _
    c.number_among-number.result c.loop-k.table c.loop-k-test.true c.loop-k.invariant g z.is
    (omega (arith, z.high, c.requires.numbers.1, c.loop-k.auto.table)) c.number_among-number.ensures
