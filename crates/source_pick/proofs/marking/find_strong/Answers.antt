use Rattle.std.proofs.Common.{arith}
use Rattle.source_pick.proofs.PassesStrong.{strong_nodes_none, strong_nodes_more, strong_nodes_up_to}
use Rattle.source_pick.proofs.marking.find_strong.Goals as goal

pub loop-n-init : goal.loop-n-init
loop-n-init c = strong_nodes_none c.args.choice.now c.args.tree.now c.args.outlines.now c.args.strong.now c.requires.one_each

pub loop-n-preserved : goal.loop-n-preserved
loop-n-preserved c =
    strong_nodes_more c.args.choice.now c.args.tree.now c.args.outlines.now c.loop-n.n c.passes_as_strong-is_strong_node.result c.loop-n.strong c.loop-n.invariant
    (omega (arith, c.loop-n-test.true, c.node_count-n-end.ensures.all)) c.passes_as_strong-is_strong_node.ensures

pub returns : goal.returns
returns c =
    strong_nodes_up_to c.args.choice.now c.args.tree.now c.args.outlines.now _ c.loop-n.n c.loop-n.strong c.loop-n.invariant
    (omega (arith, c.loop-n-test.false, c.node_count-n-end.ensures.all))
