use Rattle.std.proofs.Common.{arith}
use Rattle.source_pick.proofs.PassesStrong.{entries_none, entries_more, entries_up_to}
use Rattle.source_pick.proofs.marking.find_entries.Goals as goal

pub loop-n-init : goal.loop-n-init
loop-n-init c = entries_none c.args.choice.now c.args.tree.now c.args.outlines.now c.args.entries.now c.requires.one_each

pub loop-n-preserved : goal.loop-n-preserved
loop-n-preserved c =
    entries_more c.args.choice.now c.args.tree.now c.args.outlines.now c.loop-n.n c.entry_of_node-entry.result c.loop-n.entries c.loop-n.invariant
    (omega (arith, c.loop-n-test.true, c.node_count-n-end.ensures.all)) c.entry_of_node-entry.ensures

pub returns : goal.returns
returns c =
    entries_up_to c.args.choice.now c.args.tree.now c.args.outlines.now _ c.loop-n.n c.loop-n.entries c.loop-n.invariant
    (omega (arith, c.loop-n-test.false, c.node_count-n-end.ensures.all))
