use Rattle.std.proofs.Common.{ℕ, ◌∙◌, List, length, sym, ap, subst}
use Rattle.std.proofs.lemmas.List.{length-replicate}
use Rattle.dual_measure.specs.Measures.{AreTheTreesMeasures}
use Rattle.dual_measure.specs.Adding.{blank_measure, AreOfFront}
use Rattle.dual_measure.proofs.Passing.{front_none, numbers_for_values, down_from_front, measures_from_down, trees_measures}
use Rattle.dual_measure.proofs.adding.fill.Goals as goal

pub add_pixels-requires-clause-one_each : goal.add_pixels-requires-clause-one_each
add_pixels-requires-clause-one_each c = ap length c.node_of.ensures.same ∙ numbers_for_values c.args.values.now c.args.tree.now c.requires.shape c.requires.tree

pub add_pixels-requires-clause-none : goal.add_pixels-requires-clause-none
add_pixels-requires-clause-none c = front_none c.args.values.now c.node_of.result.now _ c.args.entries.now c.requires.blank

pub add_to_parents-requires-clause-own : goal.add_to_parents-requires-clause-own
add_to_parents-requires-clause-own c =
    down_from_front c.args.values.now c.args.tree.now c.add_pixels.new.entries c.add_pixels.ensures.plane c.requires.shape
    (c.add_pixels.auto.entries ∙ ap length c.requires.blank ∙ length-replicate (length c.args.tree.now.rows) blank_measure)
    (subst (λ (numbers : List ℕ). AreOfFront c.args.values.now numbers (length c.args.values.now.values) c.add_pixels.new.entries) c.node_of.ensures.same
    c.add_pixels.ensures.own)

pub returns-clause-exact : goal.returns-clause-exact
returns-clause-exact c = λ plane connect one_each e.
    c.settle.ensures
    ∙ measures_from_down c.args.values.now c.args.tree.now c.add_to_parents.new.entries plane connect c.add_pixels.ensures.plane c.add_pixels.ensures.in_range
    c.requires.shape c.add_to_parents.ensures one_each e

pub returns-clause-the_trees : goal.returns-clause-the_trees
returns-clause-the_trees c =
    subst (AreTheTreesMeasures c.args.tree.now) (sym c.settle.ensures)
    (trees_measures c.args.values.now c.args.tree.now c.add_to_parents.new.entries c.add_pixels.ensures.plane c.add_pixels.ensures.in_range c.requires.shape
    c.requires.tree c.add_to_parents.ensures)
