use Rattle.std.proofs.Common.{arith, subst, ◌+◌, sym, List}
use Rattle.std.proofs.lemmas.Option.{slice_get-get_or}
use Rattle.source_pick.specs.declared.splitting.StrongChildren.{StrongChildren}
use Rattle.source_pick.specs.Passes.{AreStrongChildCounts}
use Rattle.source_pick.proofs.PassesCounts.{counted_with, counted_without, counted_up_to}
use Rattle.source_pick.proofs.splitting.count_children.Goals.{in-Some, in_default}
use Rattle.source_pick.proofs.splitting.count_children.Goals as goal

pub loop-n-preserved : goal.loop-n-preserved
loop-n-preserved c = elim c.match-inner_parent.branch [
  | in-Some w ↦ subst (λ (xs : List StrongChildren). AreStrongChildCounts c.args.tree.now.rows c.args.entries.now c.args.strong.now (c.loop-n.n + 1) xs)
      (sym w.children-is)
      (counted_with c.args.tree.now.rows c.args.entries.now c.args.strong.now c.loop-n.n _ _ _ c.loop-n.children c.loop-n.invariant
      (slice_get-get_or c.loop-n.children _ _ (omega (arith, w.in-Some.ensures.inside, c.loop-n.invariant.one_each))) w.in-Some.ensures.found
      w.and_one-more.ensures)
  | in_default w ↦ subst (λ (xs : List StrongChildren). AreStrongChildCounts c.args.tree.now.rows c.args.entries.now c.args.strong.now (c.loop-n.n + 1) xs)
      (sym w.children-is)
      (counted_without c.args.tree.now.rows c.args.entries.now c.args.strong.now c.loop-n.n c.loop-n.children c.loop-n.invariant w.in_default.ensures.none)
]

pub returns : goal.returns
returns c =
    counted_up_to c.args.tree.now.rows c.args.entries.now c.args.strong.now _ c.loop-n.n c.loop-n.children c.loop-n.invariant
    (omega (arith, c.loop-n-test.false, c.node_count-n-end.ensures.all))
