use Rattle.std.proofs.Common.{◌+◌, ◌<◌, Bool, List, sym, ◌∙◌, ap, subst, arith, length}
use Rattle.std.proofs.lemmas.Bool.{or_left, or_right, eq-eqb}
use Rattle.std.specs.Prelude.{◌==◌}
use Rattle.comp_tree.specs.ComponentTree.{parent_in, no_node}
use Rattle.node_sums.proofs.Exported.{row-parent}
use Rattle.filter_rules.specs.Passes.{AreWithParents, flag}
use Rattle.filter_rules.proofs.Flags.{parent_less, parent_refuses, parent_allows}
use Rattle.filter_rules.proofs.keeping.keep_with_parents.Goals.{then-parent+then-not-kept-parent, else-parent}
use Rattle.filter_rules.proofs.keeping.keep_with_parents.Goals.{else-parent-via-then-parent+else-not-kept-parent, else-parent-via-else-parent}
use Rattle.filter_rules.proofs.keeping.keep_with_parents.Goals as goal

pub bounds-kept-parent : goal.bounds-kept-parent
bounds-kept-parent c =
    omega (
      arith,
      c.loop-n-test.true,
      c.requires.one_each,
      c.loop-n.invariant.one_each,
      parent_less c.args.rows.now c.requires.rows c.args.kept.now c.loop-n.kept c.loop-n.n (omega (arith, c.loop-n-test.true, c.loop-n.auto.n-end)) _
          c.if-parent.true,
    )

pub loop-n-preserved : goal.loop-n-preserved
loop-n-preserved c =
    let node : c.loop-n.n < length c.args.rows.now = omega (arith, c.loop-n-test.true, c.loop-n.auto.n-end) in
    elim c.if-parent.branch [
      | then-parent+then-not-kept-parent w ↦
          subst (λ (flags : List Bool). AreWithParents c.args.rows.now c.args.kept.now flags (c.loop-n.n + 1)) (sym w.kept-is)
          (parent_refuses c.args.rows.now c.requires.rows c.args.kept.now c.loop-n.kept c.loop-n.n node c.requires.one_each c.loop-n.invariant
          (λ e. w.if-parent.true (row-parent c.args.rows.now c.loop-n.n _ node ∙ e))
          (ap (flag c.loop-n.kept) (sym (row-parent c.args.rows.now c.loop-n.n _ node)) ∙ w.if-not-kept-parent.true))
      | else-parent w ↦
          subst (λ (flags : List Bool). AreWithParents c.args.rows.now c.args.kept.now flags (c.loop-n.n + 1)) (sym w.kept-is)
          (parent_allows c.args.rows.now c.requires.rows c.args.kept.now c.loop-n.kept c.loop-n.n node c.requires.one_each c.loop-n.invariant
          (elim w.else-parent.branch [
            | else-parent-via-then-parent+else-not-kept-parent u ↦
                or_right (parent_in c.args.rows.now c.loop-n.n == no_node) (flag c.loop-n.kept (parent_in c.args.rows.now c.loop-n.n))
                (ap (flag c.loop-n.kept) (sym (row-parent c.args.rows.now c.loop-n.n _ node)) ∙ u.if-not-kept-parent.false)
            | else-parent-via-else-parent u ↦
                or_left (parent_in c.args.rows.now c.loop-n.n == no_node) (flag c.loop-n.kept (parent_in c.args.rows.now c.loop-n.n))
                (eq-eqb (parent_in c.args.rows.now c.loop-n.n) no_node (sym (row-parent c.args.rows.now c.loop-n.n _ node) ∙ u.if-parent.false))
          ]))
    ]
