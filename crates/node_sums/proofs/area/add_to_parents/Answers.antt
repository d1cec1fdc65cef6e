use Rattle.std.proofs.Common.{refl, arith}
use Rattle.node_sums.proofs.AreaSteps.{area_step_from_code, step_small, step_yes, step_root}
use Rattle.node_sums.proofs.area.add_to_parents.Goals as goal

pub bounds-areas-parent : goal.bounds-areas-parent
bounds-areas-parent c =
    let step =
    area_step_from_code c.args.plane.now c.args.tree.now c.loop-n.areas c.loop-n.n c.rows-rows.result.now _ c.requires.plane c.requires.tree c.loop-n.invariant
    (omega (arith, c.loop-n-test.true)) c.loop-n.auto.n c.rows-rows.ensures c.if-parent.true in
    omega (arith, step.inside, step.so_far.one_each)

pub bounds-areas-parent-then-parent : goal.bounds-areas-parent-then-parent
bounds-areas-parent-then-parent c =
    let step =
    area_step_from_code c.args.plane.now c.args.tree.now c.loop-n.areas c.loop-n.n c.rows-rows.result.now _ c.requires.plane c.requires.tree c.loop-n.invariant
    (omega (arith, c.loop-n-test.true)) c.loop-n.auto.n c.rows-rows.ensures c.if-parent.true in
    omega (arith, step.inside, step.so_far.one_each)

pub overflow_add-areas : goal.overflow_add-areas
overflow_add-areas c =
    let step =
    area_step_from_code c.args.plane.now c.args.tree.now c.loop-n.areas c.loop-n.n c.rows-rows.result.now _ c.requires.plane c.requires.tree c.loop-n.invariant
    (omega (arith, c.loop-n-test.true)) c.loop-n.auto.n c.rows-rows.ensures c.if-parent.true in
    omega (arith, step_small c.args.plane.now c.args.tree.now c.loop-n.areas _ _ c.requires.plane c.requires.tree step)

pub loop-n-preserved-then-parent : goal.loop-n-preserved-then-parent
loop-n-preserved-then-parent c =
    step_yes c.args.plane.now c.args.tree.now c.loop-n.areas _ _ _ c.requires.plane
    (area_step_from_code c.args.plane.now c.args.tree.now c.loop-n.areas c.loop-n.n c.rows-rows.result.now _ c.requires.plane c.requires.tree c.loop-n.invariant
    (omega (arith, c.loop-n-test.true)) c.loop-n.auto.n c.rows-rows.ensures c.if-parent.true) refl

pub loop-n-preserved : goal.loop-n-preserved
loop-n-preserved c =
    step_root c.args.plane.now c.args.tree.now c.loop-n.areas c.loop-n.n c.rows-rows.result.now _ c.requires.plane c.loop-n.invariant
    (omega (arith, c.loop-n-test.true)) c.loop-n.auto.n c.rows-rows.ensures c.if-parent.false
