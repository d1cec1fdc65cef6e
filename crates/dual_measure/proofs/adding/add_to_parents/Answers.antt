use Rattle.std.proofs.Common.{arith}
use Rattle.dual_measure.proofs.Passing.{parent_place, step_from_code, step_size, step_yes, step_root}
use Rattle.dual_measure.proofs.adding.add_to_parents.Goals as goal

pub element_of_lent-combined : goal.element_of_lent-combined
element_of_lent-combined c =
    parent_place c.args.values.now c.args.tree.now c.loop-n.entries c.loop-n.n c.rows-rows.result.now _ c.requires.tree c.loop-n.invariant
    (omega (arith, c.loop-n-test.true)) c.loop-n.auto.n c.rows-rows.ensures c.if-parent.true

pub combined-whole-requires : goal.combined-whole-requires
combined-whole-requires c =
    step_size c.args.values.now c.args.tree.now c.loop-n.entries _ _ _ _ c.requires.plane c.requires.in_range c.requires.tree
    (step_from_code c.args.values.now c.args.tree.now c.loop-n.entries c.loop-n.n c.rows-rows.result.now _ _ _ c.requires.tree c.loop-n.invariant
    (omega (arith, c.loop-n-test.true)) c.loop-n.auto.n c.rows-rows.ensures c.if-parent.true)

pub bounds-entries-parent : goal.bounds-entries-parent
bounds-entries-parent c =
    parent_place c.args.values.now c.args.tree.now c.loop-n.entries c.loop-n.n c.rows-rows.result.now _ c.requires.tree c.loop-n.invariant
    (omega (arith, c.loop-n-test.true)) c.loop-n.auto.n c.rows-rows.ensures c.if-parent.true

pub loop-n-preserved-then-parent : goal.loop-n-preserved-then-parent
loop-n-preserved-then-parent c =
    step_yes c.args.values.now c.args.tree.now c.loop-n.entries _ _ _ _ _
    (step_from_code c.args.values.now c.args.tree.now c.loop-n.entries c.loop-n.n c.rows-rows.result.now _ _ _ c.requires.tree c.loop-n.invariant
    (omega (arith, c.loop-n-test.true)) c.loop-n.auto.n c.rows-rows.ensures c.if-parent.true)
    c.combined-whole.ensures

pub loop-n-preserved : goal.loop-n-preserved
loop-n-preserved c =
    step_root c.args.values.now c.args.tree.now c.loop-n.entries c.loop-n.n c.rows-rows.result.now _ c.loop-n.invariant
    (omega (arith, c.loop-n-test.true)) c.loop-n.auto.n c.rows-rows.ensures c.if-parent.false
