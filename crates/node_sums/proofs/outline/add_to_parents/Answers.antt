use Rattle.std.proofs.Common.{arith}
use Rattle.node_sums.proofs.OutlineSteps
use Rattle.node_sums.proofs.outline.add_to_parents.Goals as goal

pub element_of_lent-together : goal.element_of_lent-together
element_of_lent-together c =
    OutlineSteps.outline_place c.args.plane.now c.args.tree.now c.loop-n.outlines c.loop-n.n c.rows-rows.result.now _ c.requires.plane c.requires.tree
    c.loop-n.invariant
    (omega (arith, c.loop-n-test.true)) c.loop-n.auto.n c.rows-rows.ensures c.if-parent.true

pub together-whole-requires : goal.together-whole-requires
together-whole-requires c =
    OutlineSteps.step_fits c.args.plane.now c.args.tree.now c.loop-n.outlines _ _ _ _ c.requires.plane c.requires.in_range c.requires.tree
    (OutlineSteps.outline_step c.args.plane.now c.args.tree.now c.loop-n.outlines c.loop-n.n c.rows-rows.result.now _ _ _ c.requires.plane c.requires.tree
    c.loop-n.invariant
    (omega (arith, c.loop-n-test.true)) c.loop-n.auto.n c.rows-rows.ensures c.if-parent.true)

pub bounds-outlines-parent : goal.bounds-outlines-parent
bounds-outlines-parent c =
    OutlineSteps.outline_place c.args.plane.now c.args.tree.now c.loop-n.outlines c.loop-n.n c.rows-rows.result.now _ c.requires.plane c.requires.tree
    c.loop-n.invariant
    (omega (arith, c.loop-n-test.true)) c.loop-n.auto.n c.rows-rows.ensures c.if-parent.true

pub loop-n-preserved-then-parent : goal.loop-n-preserved-then-parent
loop-n-preserved-then-parent c =
    OutlineSteps.step_to_next c.args.plane.now c.args.tree.now c.loop-n.outlines _ _ _ _ _ c.requires.plane
    (OutlineSteps.outline_step c.args.plane.now c.args.tree.now c.loop-n.outlines c.loop-n.n c.rows-rows.result.now _ _ _ c.requires.plane c.requires.tree
    c.loop-n.invariant
    (omega (arith, c.loop-n-test.true)) c.loop-n.auto.n c.rows-rows.ensures c.if-parent.true)
    c.together-whole.ensures

pub loop-n-preserved : goal.loop-n-preserved
loop-n-preserved c =
    OutlineSteps.step_at_root c.args.plane.now c.args.tree.now c.loop-n.outlines c.loop-n.n c.rows-rows.result.now _ c.requires.plane c.loop-n.invariant
    (omega (arith, c.loop-n-test.true)) c.loop-n.auto.n c.rows-rows.ensures c.if-parent.false
