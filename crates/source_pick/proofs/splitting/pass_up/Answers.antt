use Rattle.std.proofs.Common.{arith, subst, sym, ◌∙◌, ℕ}
use Rattle.std.proofs.lemmas.Bool.{true≢false}
use Rattle.source_pick.specs.Passes.{ArePassed}
use Rattle.node_sums.proofs.Exported.{some_parent_smaller}
use Rattle.source_pick.proofs.PassesCounts.{passed_none, passed_with, passed_without, passed_all, none_outside}
use Rattle.source_pick.proofs.splitting.pass_up.Goals.{else-flags-n-via-then-flags-n+else-parent, else-flags-n-via-else-flags-n}
use Rattle.source_pick.proofs.splitting.pass_up.Goals as goal

pub loop-n-init : goal.loop-n-init
loop-n-init c =
    subst (λ (n : ℕ). ArePassed c.args.tree.now.rows c.args.flags.now n c.args.flags.now) (sym c.node_count-n.ensures.all)
    (passed_none c.args.tree.now.rows c.args.flags.now c.requires)

pub bounds-flags-parent : goal.bounds-flags-parent
bounds-flags-parent c =
    let smaller = some_parent_smaller c.parent-parent.result _ c.parent-parent.ensures.smaller c.if-parent.true in
    omega (arith, smaller, c.loop-n-test.true, c.loop-n.auto.n, c.node_count-n.ensures.all, c.loop-n.invariant.one_each)

pub loop-n-preserved-then-parent : goal.loop-n-preserved-then-parent
loop-n-preserved-then-parent c =
    passed_with c.args.tree.now.rows c.args.flags.now c.loop-n.n _ _ c.loop-n.flags c.loop-n.invariant (omega (arith, c.loop-n-test.true))
    (omega (arith, c.loop-n-test.true, c.loop-n.auto.n, c.node_count-n.ensures.all)) c.if-flags-n.true
    (sym c.parent-parent.ensures.same)
    (some_parent_smaller c.parent-parent.result _ c.parent-parent.ensures.smaller c.if-parent.true)

pub loop-n-preserved : goal.loop-n-preserved
loop-n-preserved c = elim c.else-flags-n.branch [
  | else-flags-n-via-then-flags-n+else-parent w ↦
      passed_without c.args.tree.now.rows c.args.flags.now c.loop-n.n _ c.loop-n.flags c.loop-n.invariant (omega (arith, c.loop-n-test.true))
      (λ m e l f. none_outside c.args.tree.now.rows _ m _ c.parent-parent.ensures.few c.parent-parent.ensures.same
      w.if-parent.false e l)
  | else-flags-n-via-else-flags-n w ↦
      passed_without c.args.tree.now.rows c.args.flags.now c.loop-n.n _ c.loop-n.flags c.loop-n.invariant (omega (arith, c.loop-n-test.true))
      (λ m e l f. true≢false (sym f ∙ w.if-flags-n.false))
]

pub returns : goal.returns
returns c = passed_all c.args.tree.now.rows c.args.flags.now c.loop-n.n c.loop-n.flags c.loop-n.invariant (omega (arith, c.loop-n-test.false))
