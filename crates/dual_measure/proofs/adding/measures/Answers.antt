use Rattle.std.proofs.Common.{◌∙◌, List, sym, ap, subst}
use Rattle.std.specs.Prelude.{slice_get}
use Rattle.node_sums.proofs.Exported.{take_front}
use Rattle.dual_measure.specs.declared.values.Measure.{Measure}
use Rattle.dual_measure.specs.Measures.{AreTheTreesMeasures}
use Rattle.dual_measure.proofs.Backs.{entry_small}
use Rattle.dual_measure.proofs.adding.measures.Goals as goal

pub returns-clause-exact : goal.returns-clause-exact
returns-clause-exact c = λ plane connect one_each e.
    take_front c.fill.new.entries _ _ (c.fill.auto.entries ∙ c.deref_mut.ensures.len) ∙ c.fill.ensures.exact plane connect one_each e

pub returns-clause-the_trees : goal.returns-clause-the_trees
returns-clause-the_trees c =
    subst (AreTheTreesMeasures c.args.tree.now) (sym (take_front c.fill.new.entries _ _ (c.fill.auto.entries ∙ c.deref_mut.ensures.len)))
    c.fill.ensures.the_trees

pub returns-clause-small : goal.returns-clause-small
returns-clause-small c = λ n entry e.
    entry_small c.args.tree.now c.fill.new.entries n entry c.fill.ensures.the_trees
    (ap (λ (xs : List Measure). slice_get xs n) (sym (take_front c.fill.new.entries _ _ (c.fill.auto.entries ∙ c.deref_mut.ensures.len))) ∙ e)
