use Rattle.std.proofs.Common.{◌≡◌, ◌-◌, ◌<◌, suc, sym, ◌∙◌, subst, arith, length, ℕ}
use Rattle.std.proofs.lemmas.Bool.{true≢false}
use Rattle.comp_tree.specs.ComponentTree.{parent_in, no_node}
use Rattle.node_sums.proofs.Exported.{row-parent}
use Rattle.filter_rules.specs.Passes.{AreWithChildren}
use Rattle.filter_rules.proofs.Flags.{parent_less, parent_gets, parent_stays}
use Rattle.filter_rules.proofs.keeping.keep_with_children.Goals.{else-parent-via-then-parent+else-kept-n, else-parent-via-else-parent}
use Rattle.filter_rules.proofs.keeping.keep_with_children.Goals as goal

pub loop-n-preserved-then-kept-n : goal.loop-n-preserved-then-kept-n
loop-n-preserved-then-kept-n c =
    let node : c.loop-n.n - 1 < length c.args.rows.now = omega (arith, c.loop-n-test.true, c.loop-n.invariant.within) in
    let next : c.loop-n.n ≡ suc (c.loop-n.n - 1) = omega (arith, c.loop-n-test.true) in
    record {
      within = omega arith;
      asked = parent_gets c.args.rows.now c.requires.rows c.args.kept.now c.loop-n.kept (c.loop-n.n - 1) node c.requires.one_each
          (subst (λ (k : ℕ). AreWithChildren c.args.rows.now c.args.kept.now c.loop-n.kept k) next c.loop-n.invariant.asked) _
          (sym (row-parent c.args.rows.now (c.loop-n.n - 1) _ node))
          (parent_less c.args.rows.now c.requires.rows c.args.kept.now c.loop-n.kept (c.loop-n.n - 1) node _ c.if-parent.true)
          c.if-kept-n.true;
    }

pub loop-n-preserved : goal.loop-n-preserved
loop-n-preserved c =
    let node : c.loop-n.n - 1 < length c.args.rows.now = omega (arith, c.loop-n-test.true, c.loop-n.invariant.within) in
    let next : c.loop-n.n ≡ suc (c.loop-n.n - 1) = omega (arith, c.loop-n-test.true) in
    record {
      within = omega arith;
      asked = parent_stays c.args.rows.now c.requires.rows c.args.kept.now c.loop-n.kept (c.loop-n.n - 1) node c.requires.one_each
          (subst (λ (k : ℕ). AreWithChildren c.args.rows.now c.args.kept.now c.loop-n.kept k) next c.loop-n.invariant.asked)
          (λ l f. elim c.else-parent.branch [
            | else-parent-via-then-parent+else-kept-n w ↦ absurd (true≢false (sym f ∙ w.if-kept-n.false))
            | else-parent-via-else-parent w ↦ let same : parent_in c.args.rows.now (c.loop-n.n - 1) ≡ no_node =
                sym (row-parent c.args.rows.now (c.loop-n.n - 1) _ node) ∙ w.if-parent.false in absurd (omega (arith, c.requires.rows.few, l, same))
          ]);
    }
