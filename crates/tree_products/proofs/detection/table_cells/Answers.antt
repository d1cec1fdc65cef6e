use Rattle.std.proofs.Common.{arith}
use Rattle.std.proofs.lemmas.Option.{slice_get-get_or}
use Rattle.node_sums.proofs.Exported.{count_of_sums, sums_at, sums_of_one}
use Rattle.tree_products.proofs.Cells.{few_picked, no_cells, cells_more, all_cells, cells_table}
use Rattle.tree_products.proofs.detection.table_cells.Goals as goal

pub overflow_mul-picked : goal.overflow_mul-picked
overflow_mul-picked c = let few = few_picked c.args.tree.now c.args.picked.now c.requires.disjoint in record { fits = omega (arith, few) }

pub loop-place-init : goal.loop-place-init
loop-place-init c = no_cells c.args.tree.now c.args.sums.now c.args.picked.now _ c.in-Ok.ensures.items

pub overflow_cast-place : goal.overflow_cast-place
overflow_cast-place c =
    let few = few_picked c.args.tree.now c.args.picked.now c.requires.disjoint in record { fits = omega (arith, few, c.loop-place-test.true) }

pub overflow_add-place : goal.overflow_add-place
overflow_add-place c =
    let few = few_picked c.args.tree.now c.args.picked.now c.requires.disjoint in record { fits = omega (arith, few, c.loop-place-test.true) }

pub bounds-sums-place : goal.bounds-sums-place
bounds-sums-place c = omega (arith, count_of_sums c.args.tree.now c.args.picked.now c.args.sums.now c.requires.sums, c.loop-place-test.true)

pub row-row-requires-clause-sums : goal.row-row-requires-clause-sums
row-row-requires-clause-sums c = sums_of_one c.args.tree.now c.args.picked.now c.args.sums.now c.loop-place.place _ c.requires.sums c.loop-place-test.true

pub row-row-requires-clause-node : goal.row-row-requires-clause-node
row-row-requires-clause-node c = c.requires.disjoint.nodes c.loop-place.place _ (slice_get-get_or c.args.picked.now c.loop-place.place 0 c.loop-place-test.true)

pub row-row-requires-clause-few : goal.row-row-requires-clause-few
row-row-requires-clause-few c = let few = few_picked c.args.tree.now c.args.picked.now c.requires.disjoint in omega (arith, few, c.loop-place-test.true)

pub loop-place-preserved : goal.loop-place-preserved
loop-place-preserved c =
    cells_more c.args.tree.now c.args.sums.now c.args.picked.now c.loop-place.place _ _ c.row-row.result c.loop-place.invariant c.loop-place-test.true
    c.in_ok-add_row.ensures c.row-row.ensures.columns
    (λ plane connect tree_is sums_are. c.row-row.ensures.exact plane connect tree_is
    (sums_at plane connect c.args.picked.now c.args.sums.now c.loop-place.place _ sums_are c.loop-place-test.true))

pub returns-clause-exact : goal.returns-clause-exact
returns-clause-exact c = λ plane connect tree_is sums_are.
    all_cells c.args.tree.now c.args.sums.now c.args.picked.now c.loop-place.place _ c.loop-place.invariant (omega (arith, c.loop-place-test.false)) plane
    connect tree_is sums_are

pub returns-clause-table : goal.returns-clause-table
returns-clause-table c =
    let few = few_picked c.args.tree.now c.args.picked.now c.requires.disjoint in
    cells_table c.args.tree.now c.args.sums.now c.args.picked.now c.loop-place.place _ c.loop-place.invariant (omega (arith, few, c.loop-place.auto.place-end))
