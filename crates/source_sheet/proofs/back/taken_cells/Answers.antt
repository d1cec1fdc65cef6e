use Rattle.std.proofs.Common.{◌≡◌, arith, refl, length, ◌≤◌}
use Rattle.std.specs.Prelude.{Some, slice_get}
use Rattle.std.proofs.lemmas.Option.{slice_get_read}
use Rattle.source_sheet.proofs.Rows.{cells_more, all_cells, cells_table}
use Rattle.source_sheet.proofs.back.taken_cells.Goals as goal

pub taken_row-row-requires-clause-sums : goal.taken_row-row-requires-clause-sums
taken_row-row-requires-clause-sums c =
    c.requires.sums c.loop-place.place c.index-taken-place.result
    (slice_get_read c.args.taken.now (length c.args.taken.now) c.loop-place.place c.index-taken-place.result refl c.loop-place-test.true
    c.index-taken-place.is)

pub loop-place-preserved : goal.loop-place-preserved
loop-place-preserved c =
    let there : slice_get c.args.taken.now c.loop-place.place ≡ Some c.index-taken-place.result =
    slice_get_read c.args.taken.now (length c.args.taken.now) c.loop-place.place c.index-taken-place.result refl c.loop-place-test.true
    c.index-taken-place.is in
    cells_more c.args.tree.now c.args.taken.now c.loop-place.place _ _ c.index-taken-place.result c.taken_row-row.result c.loop-place.invariant there
    c.in_ok-add_row.ensures c.taken_row-row.ensures.columns
    (λ s connect is have. c.taken_row-row.ensures.exact s connect is (have c.loop-place.place c.index-taken-place.result there))

pub returns-clause-exact : goal.returns-clause-exact
returns-clause-exact c = λ plane connect tree_is have h.
    all_cells c.args.tree.now c.args.taken.now c.loop-place.place _ c.loop-place.invariant (omega (arith, c.loop-place-test.false)) plane connect tree_is
    have h

pub returns-clause-table : goal.returns-clause-table
returns-clause-table c =
    let few : length c.args.taken.now ≤ 2147483647 = c.requires.few in
    cells_table c.args.tree.now c.args.taken.now c.loop-place.place _ c.loop-place.invariant (omega (arith, few, c.loop-place.auto.place-end))
