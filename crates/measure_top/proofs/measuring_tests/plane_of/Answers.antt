use Rattle.std.proofs.Common.{◌≡◌, ℕ, zero, suc, List, [], ◌∷◌, length, refl, subst, sym, ℤ, Option, Some, None, IfSome, slice_get}
use Rattle.std.specs.List.{AllByRecursion}
use Rattle.std.proofs.lemmas.Option.{cond_some}
use Rattle.std.proofs.lemmas.Result.{IfOk-weaker}
use Rattle.comp_tree.specs.declared.shape.Shape.{Shape}
use Rattle.tree_products.specs.SmallValues.{IsSmall}
use Rattle.tree_products.proofs.Exported.{small_in_half}
use Rattle.comp_tree.specs.Raster.{Raster, HasValuesInHalfRange, raster_of}
use Rattle.measure_top.proofs.measuring_tests.plane_of.Goals as goal

each_of : (values : List (Option ℤ)) → AllByRecursion (λ pixel. IfSome pixel IsSmall) values → (p : ℕ) (v : ℤ) → slice_get values p ≡ Some (Some v)
    → IsSmall v
each_of [] all p v at = absurd (cc)
each_of (None ∷ values) all zero v at = absurd (cc)
each_of (Some w ∷ values) all zero v at = let same : w ≡ v = cc in subst IsSmall same all.0
each_of (x ∷ values) all (suc p) v at = each_of values all.1 p v at

made_of : (shape : Shape) (values : List (Option ℤ)) (made : Option Raster) → AllByRecursion (λ pixel. IfSome pixel IsSmall) values
    → made ≡ raster_of shape values → IfSome made (λ plane. (plane.shape ≡ shape) × HasValuesInHalfRange plane.values)
unfolding raster_of
made_of shape values None all is = tt
made_of shape values (Some plane) all is =
    subst (λ (r : Raster). (r.shape ≡ shape) × HasValuesInHalfRange r.values) (cond_some _ _ _ (sym is)).1 (refl, record { each = λ p v at. small_in_half (length values) v (each_of values all p v at) })

pub returns : goal.returns
returns c =
    IfOk-weaker c.of.result _ _ (λ made is. made_of c.args.shape _ made
    (c.pixel_of.ensures, (c.pixel_of-2.ensures, (c.pixel_of-3.ensures, (c.pixel_of-4.ensures, (c.pixel_of-5.ensures, tt))))) is) c.of.ensures
