use Rattle.std.proofs.Common.{◌≡◌, ◌*◌, ◌^◌, ◌≤◌, subst, sym, arith}
use Rattle.std.specs.Prelude.{IfSome, Some}
use Rattle.comp_tree.specs.declared.shape.Shape.{Shape}
use Rattle.comp_tree.specs.Raster.{Raster}
use Rattle.tree_products.specs.SmallValues.{HasSmallValues}
use Rattle.tree_products.proofs.Trials.{trial_is_small}
use Rattle.tree_products.proofs.tests.the_sums_of_a_trial.Goals as goal

pub summarize-requires-clause-small : goal.summarize-requires-clause-small
summarize-requires-clause-small g c κs =
    let shape : Shape = c.in_ok-shape.shape in
    let some : c.of.result ≡ Some shape = c.in_ok-shape.ensures.ok_part in
    let sides : (shape.width ≡ 3) × (shape.height ≡ 2) = subst (λ o. IfSome o (λ (s : Shape). (s.width ≡ 3) × (s.height ≡ 2))) some c.of.ensures.sides in
    let few : shape.width * shape.height ≤ 2 ^ 24 = rw (sides.0, sides.1) (omega arith) in
    subst (λ (r : Raster). HasSmallValues r.values) (sym c.in_ok-image.ensures) (trial_is_small 7 shape few)
