use Rattle.std.proofs.Common.{◌≡◌, ◌∙◌, sym, ap, subst, arith, ℕ, List, [], length}
use Rattle.std.specs.Prelude.{slice_index}
use Rattle.std.proofs.lemmas.List.{length-replicate}
use Rattle.comp_tree.specs.Raster.{pixels}
use Rattle.node_sums.specs.declared.outline.Outline.{Outline}
use Rattle.node_sums.specs.Sums.{sums_over}
use Rattle.node_sums.specs.Merging.{AreCounted, AreOwn}
use Rattle.node_sums.specs.Outlines.{outline_of, AreOutlinesOfPlane, AreOutlinesOfTree}
use Rattle.node_sums.specs.OutlinePasses.{AreOutlinesOf}
use Rattle.node_sums.proofs.Passes.{number_below, numbers_for_pixels, take_front}
use Rattle.node_sums.proofs.OutlineSteps.{outlines_none, outlines_counted, outlines_from_counted, outlines_of_plane, outlines_of_tree}
use Rattle.node_sums.proofs.outline.outlines.Goals as goal

pub add_pixels-requires-clause-nodes : goal.add_pixels-requires-clause-nodes
add_pixels-requires-clause-nodes c = λ p d.
    let h = number_below c.args.plane.now c.args.tree.now c.requires p d in
    let entries =
    ap length (c.deref_mut.ensures.value ∙ c.in_ok-outlines.ensures c.args.plane.now)
    ∙ length-replicate (length c.rows.result.now) (outline_of (sums_over c.args.plane.now [])) in
    omega (arith, h, ap (λ (xs : List ℕ). slice_index xs p) c.node_of.ensures.same, entries, ap length c.rows.ensures)

pub add_pixels-requires-clause-one_each : goal.add_pixels-requires-clause-one_each
add_pixels-requires-clause-one_each c = ap length c.node_of.ensures.same ∙ numbers_for_pixels c.args.plane.now c.args.tree.now c.requires

pub add_pixels-requires-clause-none : goal.add_pixels-requires-clause-none
add_pixels-requires-clause-none c =
    outlines_none c.args.plane.now c.node_of.result.now _ c.deref_mut.result.now (c.deref_mut.ensures.value ∙ c.in_ok-outlines.ensures c.args.plane.now)

pub add_to_parents-requires-clause-plane : goal.add_to_parents-requires-clause-plane
add_to_parents-requires-clause-plane c = c.add_pixels.ensures.plane

pub add_to_parents-requires-clause-own : goal.add_to_parents-requires-clause-own
add_to_parents-requires-clause-own c =
    let entries =
    ap length (c.deref_mut.ensures.value ∙ c.in_ok-outlines.ensures c.args.plane.now)
    ∙ length-replicate (length c.rows.result.now) (outline_of (sums_over c.args.plane.now [])) in
    let handed : c.deref_mut-2.result.now ≡ c.add_pixels.new.outlines =
    c.deref_mut-2.ensures.value ∙ take_front c.add_pixels.new.outlines _ _ (c.add_pixels.auto.outlines ∙ c.deref_mut.ensures.len) in
    let own : AreOutlinesOf (AreOwn c.args.plane.now c.args.tree.now.node_of (pixels c.args.plane.now)) c.add_pixels.new.outlines =
    subst (λ (numbers : List ℕ). AreOutlinesOf (AreOwn c.args.plane.now numbers (pixels c.args.plane.now)) c.add_pixels.new.outlines) c.node_of.ensures.same
    c.add_pixels.ensures.own in
    subst (λ (outlines : List Outline). AreOutlinesOf (AreCounted c.args.plane.now c.args.tree.now (length c.args.tree.now.rows)) outlines) (sym handed)
    (outlines_counted c.args.plane.now c.args.tree.now c.add_pixels.new.outlines c.add_pixels.ensures.plane
    (c.add_pixels.auto.outlines ∙ entries ∙ ap length c.rows.ensures) own)

pub returns-clause-exact : goal.returns-clause-exact
returns-clause-exact c = λ connect e.
    let handed : c.deref_mut-2.result.now ≡ c.add_pixels.new.outlines =
    c.deref_mut-2.ensures.value ∙ take_front c.add_pixels.new.outlines _ _ (c.add_pixels.auto.outlines ∙ c.deref_mut.ensures.len) in
    take_front c.add_to_parents.new.outlines _ _ (c.add_to_parents.auto.outlines ∙ ap length handed ∙ c.add_pixels.auto.outlines ∙ c.deref_mut.ensures.len)
    ∙ outlines_from_counted c.args.plane.now connect c.args.tree.now c.add_to_parents.new.outlines c.add_to_parents.ensures e

pub returns-clause-of_plane : goal.returns-clause-of_plane
returns-clause-of_plane c =
    let handed : c.deref_mut-2.result.now ≡ c.add_pixels.new.outlines =
    c.deref_mut-2.ensures.value ∙ take_front c.add_pixels.new.outlines _ _ (c.add_pixels.auto.outlines ∙ c.deref_mut.ensures.len) in
    subst (λ (outlines : List Outline). AreOutlinesOfPlane c.args.plane.now c.args.tree.now outlines)
    (sym (take_front c.add_to_parents.new.outlines _ _
    (c.add_to_parents.auto.outlines ∙ ap length handed ∙ c.add_pixels.auto.outlines ∙ c.deref_mut.ensures.len)))
    (outlines_of_plane c.args.plane.now c.args.tree.now c.add_to_parents.new.outlines c.requires c.add_to_parents.ensures)

pub returns-clause-of_tree : goal.returns-clause-of_tree
returns-clause-of_tree c =
    let handed : c.deref_mut-2.result.now ≡ c.add_pixels.new.outlines =
    c.deref_mut-2.ensures.value ∙ take_front c.add_pixels.new.outlines _ _ (c.add_pixels.auto.outlines ∙ c.deref_mut.ensures.len) in
    subst (λ (outlines : List Outline). AreOutlinesOfTree c.args.tree.now outlines)
    (sym (take_front c.add_to_parents.new.outlines _ _
    (c.add_to_parents.auto.outlines ∙ ap length handed ∙ c.add_pixels.auto.outlines ∙ c.deref_mut.ensures.len)))
    (outlines_of_tree c.args.plane.now c.args.tree.now c.add_to_parents.new.outlines c.add_pixels.ensures.plane c.add_pixels.ensures.in_range c.requires
    c.add_to_parents.ensures)
