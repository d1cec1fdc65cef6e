use Rattle.std.proofs.Common.{◌≡◌, ◌∙◌, ℕ, List, length, sym, ap, subst}
use Rattle.std.proofs.lemmas.List.{length-replicate}
use Rattle.node_sums.specs.AreaPasses.{AreCounts, AreSoFar}
use Rattle.node_sums.proofs.Passes.{numbers_for_pixels, take_front}
use Rattle.node_sums.proofs.AreaSteps.{counts_none, areas_from_counts, areas_from_steps, areas-of_sums}
use Rattle.node_sums.proofs.area.areas.Goals as goal

pub count_pixels-requires-clause-one_each : goal.count_pixels-requires-clause-one_each
count_pixels-requires-clause-one_each c = ap length c.node_of.ensures.same ∙ numbers_for_pixels c.args.plane.now c.args.tree.now c.requires

pub count_pixels-requires-clause-none : goal.count_pixels-requires-clause-none
count_pixels-requires-clause-none c =
    counts_none c.node_of.result.now (length c.rows.result.now) c.deref_mut.result.now
    (c.deref_mut.ensures.value ∙ c.in_ok-areas.ensures.items_if_clones_equal (λ y e. e))

pub add_to_parents-requires-clause-own : goal.add_to_parents-requires-clause-own
add_to_parents-requires-clause-own c =
    let entries : length c.deref_mut.result.now ≡ length c.rows.result.now =
    ap length (c.deref_mut.ensures.value ∙ c.in_ok-areas.ensures.items_if_clones_equal (λ y e. e)) ∙ length-replicate {A = ℕ} (length c.rows.result.now) 0 in
    let handed : c.deref_mut-2.result.now ≡ c.count_pixels.new.areas =
    c.deref_mut-2.ensures.value ∙ take_front c.count_pixels.new.areas _ _ (c.count_pixels.auto.areas ∙ c.deref_mut.ensures.len) in
    subst (λ (areas : List ℕ). AreSoFar c.args.plane.now c.args.tree.now (length c.args.tree.now.rows) areas) (sym handed)
    (areas_from_counts c.args.plane.now c.args.tree.now c.count_pixels.new.areas c.count_pixels.ensures.plane
    (c.count_pixels.auto.areas ∙ entries ∙ ap length c.rows.ensures)
    (subst (λ (numbers : List ℕ). AreCounts numbers (length c.args.plane.now.values) c.count_pixels.new.areas) c.node_of.ensures.same c.count_pixels.ensures.counts))

pub returns-clause-exact : goal.returns-clause-exact
returns-clause-exact c = λ connect e.
    let handed : c.deref_mut-2.result.now ≡ c.count_pixels.new.areas =
    c.deref_mut-2.ensures.value ∙ take_front c.count_pixels.new.areas _ _ (c.count_pixels.auto.areas ∙ c.deref_mut.ensures.len) in
    take_front c.add_to_parents.new.areas _ _ (c.add_to_parents.auto.areas ∙ ap length handed ∙ c.count_pixels.auto.areas ∙ c.deref_mut.ensures.len)
    ∙ areas_from_steps c.args.plane.now connect c.args.tree.now c.add_to_parents.new.areas c.add_to_parents.ensures e

pub returns-clause-of_sums : goal.returns-clause-of_sums
returns-clause-of_sums c = λ connect e.
    let handed : c.deref_mut-2.result.now ≡ c.count_pixels.new.areas =
    c.deref_mut-2.ensures.value ∙ take_front c.count_pixels.new.areas _ _ (c.count_pixels.auto.areas ∙ c.deref_mut.ensures.len) in
    take_front c.add_to_parents.new.areas _ _ (c.add_to_parents.auto.areas ∙ ap length handed ∙ c.count_pixels.auto.areas ∙ c.deref_mut.ensures.len)
    ∙ areas_from_steps c.args.plane.now connect c.args.tree.now c.add_to_parents.new.areas c.add_to_parents.ensures e
    ∙ areas-of_sums c.args.plane.now connect
