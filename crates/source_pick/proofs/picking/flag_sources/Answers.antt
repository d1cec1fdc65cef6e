use Rattle.std.proofs.Common.{arith}
use Rattle.source_pick.proofs.PassesFlags.{sources_none, sources_more, sources_up_to}
use Rattle.source_pick.proofs.picking.flag_sources.Goals as goal

pub loop-n-init : goal.loop-n-init
loop-n-init c = λ choice outlines known_entries known_strong. sources_none choice c.args.tree.now outlines c.args.flags.now c.requires.flags

pub loop-n-preserved : goal.loop-n-preserved
loop-n-preserved c = λ choice outlines known_entries known_strong.
    sources_more choice c.args.tree.now outlines c.loop-n.n c.passes_as_source-is_flagged.result c.loop-n.flags
    (c.loop-n.invariant choice outlines known_entries known_strong)
    (omega (arith, c.loop-n-test.true, c.node_count-n-end.ensures.all))
    (c.passes_as_source-is_flagged.ensures choice outlines known_entries known_strong)

pub returns : goal.returns
returns c = λ choice outlines known_entries known_strong.
    sources_up_to choice c.args.tree.now outlines _ c.loop-n.n c.loop-n.flags (c.loop-n.invariant choice outlines known_entries known_strong)
    (omega (arith, c.loop-n-test.false, c.node_count-n-end.ensures.all))
