use Rattle.std.proofs.Common.{◌∙◌, List, sym, ap, subst, length}
use Rattle.std.proofs.lemmas.Result.{IfOk-from_err}
use Rattle.node_sums.proofs.Exported.{take_front}
use Rattle.source_pick.specs.declared.splitting.StrongChildren.{StrongChildren}
use Rattle.source_pick.specs.Passes.{AreStrongChildCounts}
use Rattle.source_pick.proofs.PassesCounts.{counted_none}
use Rattle.source_pick.proofs.splitting.strong_children.Goals as goal

pub returns-in_err-children : goal.returns-in_err-children
returns-in_err-children c = IfOk-from_err _ _ c.from_residual.ensures.0

pub count_children-requires-clause-entries : goal.count_children-requires-clause-entries
count_children-requires-clause-entries c = c.requires.entries

pub count_children-requires-clause-strong : goal.count_children-requires-clause-strong
count_children-requires-clause-strong c = c.requires.strong

pub count_children-requires-clause-none : goal.count_children-requires-clause-none
count_children-requires-clause-none c =
    counted_none c.args.tree.now.rows c.args.entries.now c.args.strong.now (length c.rows.result.now) c.deref_mut.result.now
    (c.deref_mut.ensures.value ∙ c.in_ok-children.ensures.items_if_clones_equal (λ y e. e)) (ap length c.rows.ensures)

pub returns : goal.returns
returns c =
    subst (λ (xs : List StrongChildren). AreStrongChildCounts c.args.tree.now.rows c.args.entries.now c.args.strong.now (length c.args.tree.now.rows) xs)
    (sym (take_front c.count_children.new.children _ _ (c.count_children.auto.children ∙ c.deref_mut.ensures.len))) c.count_children.ensures
