use Rattle.std.proofs.Common.{◌*◌, ◌⊎◌, ◌∙◌, sym, ap, subst, length}
use Rattle.std.proofs.lemmas.List.{with_items_is, length-map}
use Rattle.comp_tree.specs.declared.shape.Shape.{Shape}
use Rattle.comp_tree.specs.declared.shape.Connect.TheVariants.{Four, Eight}
use Rattle.comp_tree.specs.Raster.{IsPlane}
use Rattle.comp_tree.specs.Forest.{IsForest}
use Rattle.comp_tree.specs.Forest.{StandsForAll}
use Rattle.tree_canon.specs.Canonical.{IsNumbering, with_parent}
use Rattle.tree_canon.proofs.Numbering.{rows_by_pixels, pixels_within}
use Rattle.tree_canon.proofs.Trees.{rows_from, tree_is, well_formed}
use Rattle.tree_canon.proofs.canon.Goals as goal

pub number_nodes-requires-clause-canonical : goal.number_nodes-requires-clause-canonical
number_nodes-requires-clause-canonical g c = λ lifetimes within. c.deref.ensures.value ∙ c.in_ok-pixels.ensures

pub set_parents-requires-clause-within : goal.set_parents-requires-clause-within
set_parents-requires-clause-within g c =
    pixels_within c.args.plane.now c.parents-links.result.now c.deref-3.result.now (ap length c.parents-links.ensures ∙ c.requires.one_each)
    (c.deref-3.ensures.value ∙ c.in_ok-pixels.ensures)

pub set_parents-requires-clause-one_each : goal.set_parents-requires-clause-one_each
set_parents-requires-clause-one_each g c = ap length c.deref-2.ensures.value ∙ c.in_ok-made.ensures.numbers.one_each

pub set_parents-requires-clause-rows : goal.set_parents-requires-clause-rows
set_parents-requires-clause-rows g c =
    rows_by_pixels c.args.plane.now c.parents-links.result.now c.deref-3.result.now c.deref-2.result.now c.deref_mut.result.now
    (c.deref-3.ensures.value ∙ c.in_ok-pixels.ensures)
    (c.deref_mut.ensures.value ∙ c.in_ok-made.ensures.rows)
    (subst (IsNumbering c.args.plane.now c.parents-links.result.now) (sym c.deref-2.ensures.value) c.in_ok-made.ensures.numbers)

pub returns : goal.returns
returns g c = λ connect stands.
    let r = c.args.plane.now in let links = c.parents-links.result.now in let same = c.parents-links.ensures in
    let plane : IsPlane r = c.shape-shape.ensures.pixels ∙ ap (λ (s : Shape). s.width * s.height) c.shape-shape.ensures.same in
    let new = c.set_parents.new.rows in
    let count = ap length c.set_parents.ensures ∙ length-map c.deref_mut.result.now (with_parent links c.deref-2.result.now) ∙ c.deref_mut.ensures.len in
    c.of.ensures
    ∙ tree_is r connect links plane (ap length same ∙ c.requires.one_each) (subst (IsForest r.values 0) (sym same) c.requires.forest)
    (subst (StandsForAll r connect) (sym same) stands)
    c.in_ok-made.made.numbers.items c.in_ok-made.ensures.numbers c.shape-shape.result _ c.shape-shape.ensures.same
    (with_items_is c.in_ok-made.made.rows new count
    ∙ rows_from r links c.in_ok-made.made.numbers.items c.deref-2.result.now c.in_ok-made.made.rows.items c.deref_mut.result.now new c.in_ok-made.ensures.rows
    c.deref_mut.ensures.value c.deref-2.ensures.value c.set_parents.ensures)

pub of-requires : goal.of-requires
of-requires g c =
    let r = c.args.plane.now in let links = c.parents-links.result.now in let same = c.parents-links.ensures in
    let plane : IsPlane r = c.shape-shape.ensures.pixels ∙ ap (λ (s : Shape). s.width * s.height) c.shape-shape.ensures.same in
    let new = c.set_parents.new.rows in
    let count = ap length c.set_parents.ensures ∙ length-map c.deref_mut.result.now (with_parent links c.deref-2.result.now) ∙ c.deref_mut.ensures.len in
    well_formed r links plane (ap length same ∙ c.requires.one_each) (subst (IsForest r.values 0) (sym same) c.requires.forest)
    (subst (λ ls. StandsForAll r Four ls ⊎ StandsForAll r Eight ls) (sym same) c.requires.stands)
    c.in_ok-made.made.numbers.items c.in_ok-made.ensures.numbers c.shape-shape.result _ c.shape-shape.ensures.same
    (with_items_is c.in_ok-made.made.rows new count
    ∙ rows_from r links c.in_ok-made.made.numbers.items c.deref-2.result.now c.in_ok-made.made.rows.items c.deref_mut.result.now new c.in_ok-made.ensures.rows
    c.deref_mut.ensures.value c.deref-2.ensures.value c.set_parents.ensures)
