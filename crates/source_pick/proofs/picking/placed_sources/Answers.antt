use Rattle.std.proofs.Common.{◌∙◌, arith}
use Rattle.source_pick.proofs.OrderPlacing.{placed_more, placed_whole}
use Rattle.source_pick.proofs.picking.placed_sources.Goals as goal

pub loop-i-init : goal.loop-i-init
loop-i-init c = λ r connect are. c.new-placed.ensures.items

pub bounds-sums-i : goal.bounds-sums-i
bounds-sums-i c = omega (arith, c.loop-i-test.true, c.requires)

pub loop-i-preserved : goal.loop-i-preserved
loop-i-preserved c = λ r connect are.
    c.in_ok-push.ensures.items
    ∙ placed_more r connect c.args.nodes.now c.args.sums.now c.loop-i.placed.items c.loop-i.i _ _ are (omega (arith, c.loop-i-test.true))
    (c.loop-i.invariant r connect are)

pub returns : goal.returns
returns c = λ r connect are.
    placed_whole r connect c.args.nodes.now c.loop-i.placed.items c.loop-i.i (c.loop-i.invariant r connect are) (omega (arith, c.loop-i-test.false))
