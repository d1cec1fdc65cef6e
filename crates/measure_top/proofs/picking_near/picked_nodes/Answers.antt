use Rattle.std.proofs.Common.{arith}
use Rattle.std.proofs.lemmas.Option.{slice_get-get_or}
use Rattle.node_sums.proofs.Exported.{count_of_sums, sums_at, sums_of_one}
use Rattle.measure_top.proofs.PickedRows.{no_nodes, node_more, all_nodes}
use Rattle.tree_products.proofs.Exported.{few_picked}
use Rattle.measure_top.proofs.picking_near.picked_nodes.Goals as goal

pub overflow_cast-place : goal.overflow_cast-place
overflow_cast-place c =
    let few = few_picked c.args.tree.now c.args.picked.now c.requires.disjoint in record { fits = omega (arith, few, c.loop-place-test.true) }

pub overflow_add-place : goal.overflow_add-place
overflow_add-place c =
    let few = few_picked c.args.tree.now c.args.picked.now c.requires.disjoint in record { fits = omega (arith, few, c.loop-place-test.true) }

pub loop-place-init : goal.loop-place-init
loop-place-init c = no_nodes c.args.tree.now c.args.sums.now c.args.picked.now c.in-Ok.nodes.items c.in-Ok.ensures.items

pub bounds-sums-place : goal.bounds-sums-place
bounds-sums-place c = omega (arith, count_of_sums c.args.tree.now c.args.picked.now c.args.sums.now c.requires.sums, c.loop-place-test.true)

pub picked_node-node-requires-clause-sums : goal.picked_node-node-requires-clause-sums
picked_node-node-requires-clause-sums c =
    sums_of_one c.args.tree.now c.args.picked.now c.args.sums.now c.loop-place.place _ c.requires.sums c.loop-place-test.true

pub picked_node-node-requires-clause-node : goal.picked_node-node-requires-clause-node
picked_node-node-requires-clause-node c =
    c.requires.disjoint.nodes c.loop-place.place _ (slice_get-get_or c.args.picked.now c.loop-place.place 0 c.loop-place-test.true)

pub picked_node-node-requires-clause-few : goal.picked_node-node-requires-clause-few
picked_node-node-requires-clause-few c =
    let few = few_picked c.args.tree.now c.args.picked.now c.requires.disjoint in omega (arith, few, c.loop-place-test.true)

pub loop-place-preserved : goal.loop-place-preserved
loop-place-preserved c =
    node_more c.args.tree.now c.args.sums.now c.args.picked.now c.loop-place.place c.loop-place.nodes.items c.push.new.self.items c.picked_node-node.result
    c.loop-place.invariant
    c.loop-place-test.true c.in-Ok-push.ensures.items c.picked_node-node.ensures.columns
    (λ plane connect is are. c.picked_node-node.ensures.row plane connect is
    (sums_at plane connect c.args.picked.now c.args.sums.now c.loop-place.place _ are c.loop-place-test.true))
    c.picked_node-node.ensures.rep

pub returns-clause-exact : goal.returns-clause-exact
returns-clause-exact c =
    all_nodes c.args.tree.now c.args.sums.now c.args.picked.now c.loop-place.place c.loop-place.nodes.items c.loop-place.invariant c.loop-place-test.false

pub returns-clause-few : goal.returns-clause-few
returns-clause-few c =
    let few = few_picked c.args.tree.now c.args.picked.now c.requires.disjoint in
    let many = c.loop-place.invariant.many in
    omega (arith, few, many, c.loop-place.auto.place-end)

pub returns-clause-fits : goal.returns-clause-fits
returns-clause-fits c = c.loop-place.invariant.fits
