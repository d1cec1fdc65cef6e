use Rattle.std.proofs.Common.{rules, ◌≡◌, ◌⊎◌, ◌*◌, ◌∙◌, length, sym, ap, subst, arith}
use Rattle.comp_tree.specs.declared.shape.Shape.{Shape}
use Rattle.comp_tree.specs.declared.shape.Connect.TheVariants.{Four, Eight}
use Rattle.comp_tree.specs.Raster.{IsPlane}
use Rattle.comp_tree.specs.Forest.{IsForest}
use Rattle.comp_tree.specs.Forest.{StandsForAll}
use Rattle.tree_canon.proofs.Fitting.{fit_forest, fit_stands, one_of_two}
use Rattle.tree_canon.proofs.tests.found_from.Goals as goal

pub find_in_bands-requires-clause-forest : goal.find_in_bands-requires-clause-forest
find_in_bands-requires-clause-forest g c κs within =
    let r = c.args.plane.now in let links = c.args.links.now in
    let same : c.parents.result.now ≡ links = c.parents.ensures ∙ (let e : c.of-forest.result ≡ links = search rules in e) in
    let plane : IsPlane r = c.shape-shape.ensures.pixels ∙ ap (λ (s : Shape). s.width * s.height) c.shape-shape.ensures.same in
    let whole : length links ≡ length r.values = omega (arith, c.if-links-pixels.false, c.pixels.ensures.product, c.shape-shape.ensures.pixels) in
    subst (IsForest r.values 0) (sym same) (fit_forest r c.args.connect links plane whole (c.are_fit.ensures c.if-not-are_fit.false))

pub canon-requires-clause-forest : goal.canon-requires-clause-forest
canon-requires-clause-forest g c κs within =
    let r = c.args.plane.now in let links = c.args.links.now in
    let same : c.of-forest.result ≡ links = search rules in
    let plane : IsPlane r = c.shape-shape.ensures.pixels ∙ ap (λ (s : Shape). s.width * s.height) c.shape-shape.ensures.same in
    let whole : length links ≡ length r.values = omega (arith, c.if-links-pixels.false, c.pixels.ensures.product, c.shape-shape.ensures.pixels) in
    subst (IsForest r.values 0) (sym same) (fit_forest r c.args.connect links plane whole (c.are_fit.ensures c.if-not-are_fit.false))

pub canon-requires-clause-stands : goal.canon-requires-clause-stands
canon-requires-clause-stands g c κs within =
    let r = c.args.plane.now in let links = c.args.links.now in
    let same : c.of-forest.result ≡ links = search rules in
    let plane : IsPlane r = c.shape-shape.ensures.pixels ∙ ap (λ (s : Shape). s.width * s.height) c.shape-shape.ensures.same in
    let whole : length links ≡ length r.values = omega (arith, c.if-links-pixels.false, c.pixels.ensures.product, c.shape-shape.ensures.pixels) in
    subst (λ ls. StandsForAll r Four ls ⊎ StandsForAll r Eight ls) (sym same)
    (one_of_two r c.args.connect links (fit_stands r c.args.connect links plane whole (c.are_fit.ensures c.if-not-are_fit.false)))
