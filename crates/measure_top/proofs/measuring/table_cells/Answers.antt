use Rattle.std.proofs.Common.{◌≡◌, length, arith, rules}
use Rattle.std.proofs.lemmas.Option.{slice_get-get_or}
use Rattle.fits_write.specs.CatalogueColumns.{measured_cells_in_row}
use Rattle.measure_top.proofs.MeasuredRows.{before_rows, rows_more, all_rows, number_there, node_read}
use Rattle.measure_top.proofs.measuring.table_cells.Goals as goal

pub overflow_mul-nodes : goal.overflow_mul-nodes
overflow_mul-nodes c = record { fits = omega (arith, c.requires.few) }

pub loop-node-init : goal.loop-node-init
loop-node-init c = before_rows c.args.tree.now c.args.measures.now c.args.nodes.now _ c.in-Ok.ensures.items

pub bounds-node_of-node : goal.bounds-node_of-node
bounds-node_of-node c =
    (number_there c.args.tree.now c.node_of-node_of.result.now c.args.nodes.now c.loop-node.node-index _ c.requires.there c.node_of-node_of.ensures.same
    c.loop-node-test.true).0

pub row_cells-cells-requires-clause-node : goal.row_cells-cells-requires-clause-node
row_cells-cells-requires-clause-node c =
    (number_there c.args.tree.now c.node_of-node_of.result.now c.args.nodes.now c.loop-node.node-index _ c.requires.there c.node_of-node_of.ensures.same
    c.loop-node-test.true).1

pub row_cells-cells-requires-clause-columns : goal.row_cells-cells-requires-clause-columns
row_cells-cells-requires-clause-columns c =
    c.requires.fits c.loop-node.node-index _ (slice_get-get_or c.args.nodes.now c.loop-node.node-index _ c.loop-node-test.true)

pub loop-node-preserved : goal.loop-node-preserved
loop-node-preserved c =
    let many : length c.row_cells-cells.result ≡ measured_cells_in_row = search rules in
    let there = c.requires.there c.loop-node.node-index _ (slice_get-get_or c.args.nodes.now c.loop-node.node-index _ c.loop-node-test.true) in
    rows_more c.args.tree.now c.args.measures.now c.args.nodes.now c.loop-node.node-index _ _ _ c.row_cells-cells.result c.loop-node.invariant
    c.requires.few
    c.loop-node-test.true c.in_ok-add_row.ensures many c.row_cells-cells.ensures.table
    (λ plane values connect one tree_is measures_are.
    node_read plane values connect c.args.tree.now c.node_of-node_of.result.now _ c.row_cells-cells.result
    tree_is
    c.node_of-node_of.ensures.same there.0 (c.row_cells-cells.ensures.exact plane values connect one tree_is measures_are))

pub returns-clause-exact : goal.returns-clause-exact
returns-clause-exact c = λ plane values connect one tree_is measures_are.
    all_rows c.args.tree.now c.args.measures.now c.args.nodes.now c.loop-node.node-index _ c.loop-node.invariant (omega (arith, c.loop-node-test.false))
    plane values connect one tree_is measures_are
