-- A shape is known by its sides, and a plane by its shape and its values.
use Rattle.std.proofs.Common.{◌≡◌, ℕ, ◌*◌, ◌^◌, ◌≤◌, Bool, true, false, Some, refl, sym, ap, subst, arith}
use Rattle.std.proofs.lemmas.Bool.Decides.{nat_tests}
use Rattle.std.specs.Coded.{le_prop}
use Rattle.comp_tree.specs.declared.shape.Shape.{Shape}
use Rattle.comp_tree.specs.Limits.{IsWithinLimits, IsWithinUsualLimits}
use Rattle.comp_tree.specs.Raster.{Raster}
use Rattle.comp_tree.specs.Shapes.{fits_limits, shape_if, shape_of}

abbrev sided : (width height : ℕ) → IsWithinLimits width height → Shape
sided width height limits = record { width = width; height = height; within_limits = limits }

one_limits : (width height : ℕ) → IsProp (IsWithinLimits width height)
one_limits width height = hlevel le_prop

same_sides : (width height w h : ℕ) (limits : IsWithinLimits width height) (others : IsWithinLimits w h) → width ≡ w → height ≡ h
    → sided width height limits ≡ sided w h others
same_sides width height w h limits others p q =
    let one : (more : IsWithinLimits width height) → sided width height limits ≡ sided width height more =
    λ more. ap (sided width height) (one_limits width height limits more) in
    let rows : (more : IsWithinLimits width h) → sided width height limits ≡ sided width h more =
    subst (λ (y : ℕ). (more : IsWithinLimits width y) → sided width height limits ≡ sided width y more) q one in
    subst (λ (x : ℕ). (more : IsWithinLimits x h) → sided width height limits ≡ sided x h more) p rows others

-- two shapes with the same sides are one
pub shape_by_sides : (s t : Shape) → s.width ≡ t.width → s.height ≡ t.height → s ≡ t
shape_by_sides s t p q = same_sides s.width s.height t.width t.height s.within_limits t.within_limits p q

within_from : (width height : ℕ) → IsWithinUsualLimits width height → fits_limits width height ≡ true
unfolding fits_limits
within_from width height limits =
    let columns = limits.some_columns in
    let rows = limits.some_rows in
    let few_columns = limits.few_columns in
    let few_rows = limits.few_rows in
    let few_pixels = limits.few_pixels in
    grind (arith, nat_tests)

pub shape_if-true : (width height : ℕ) (within : Bool) (limits : within ≡ true → IsWithinLimits width height) (s : Shape) → within ≡ true → s.width ≡ width
    → s.height ≡ height → shape_if width height within limits ≡ Some s
shape_if-true width height true limits s h p q = ap Some (sym (shape_by_sides s (sided width height (limits refl)) p q))
shape_if-true width height false limits s h p q = absurd (cc)

-- the sides of a shape with few pixels are within the usual limits
pub usual_sides : (s : Shape) → s.width * s.height ≤ 2 ^ 24 → IsWithinUsualLimits s.width s.height
usual_sides s few = record {
  some_columns = s.within_limits.some_columns;
  some_rows = s.within_limits.some_rows;
  few_columns = s.within_limits.few_columns;
  few_rows = s.within_limits.few_rows;
  few_pixels = few;
}

-- the shape of such a shape's sides is that shape
pub shape_of_sides : (width height : ℕ) (s : Shape) → s.width ≡ width → s.height ≡ height → s.width * s.height ≤ 2 ^ 24 → shape_of width height ≡ Some s
unfolding shape_of
shape_of_sides width height s p q few =
    shape_if-true width height (fits_limits width height) _ s
    (within_from width height (subst (λ x. IsWithinUsualLimits x height) p (subst (λ y. IsWithinUsualLimits s.width y) q (usual_sides s few)))) p q

-- two planes of one shape with the same values are one
pub raster_is : (a b : Raster) → a.shape ≡ b.shape → a.values ≡ b.values → a ≡ b
raster_is a b shape values = λ i. record { shape = shape i; values = values i }
