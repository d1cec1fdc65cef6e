-- The shape of a large image, as it is asked for.
use Rattle.std.proofs.Common.{◌≡◌, ℕ, Bool, true, false, refl, sym, arith, IfSome}
use Rattle.std.proofs.lemmas.Bool.Decides.{nat_tests}
use Rattle.std.specs.Prelude.{◌↔◌, IsSome, Option, Some, None}
use Rattle.comp_tree.specs.declared.shape.Shape.{Shape}
use Rattle.comp_tree.specs.Limits.{IsWithinLimits}
use Rattle.comp_tree.specs.Shapes.{shape_if}
use Rattle.comp_tree.proofs.Exported.{shape_if-true}
use Rattle.pixel_plane.specs.ImageLimits.{fits_plane, plane_sides, plane_shape}

by_fit : (width height : ℕ) (fits : Bool) (limits : fits ≡ true → IsWithinLimits width height) → (IsWithinLimits width height → fits ≡ true)
    → (result : Option Shape) → (IsSome result ↔ IsWithinLimits width height) → IfSome result (λ s. (s.width ≡ width) × (s.height ≡ height))
    → result ≡ shape_if width height fits limits
by_fit width height true limits back (Some s) accepted sides = sym (shape_if-true width height true limits s refl sides.0 sides.1)
by_fit width height true limits back None accepted sides = let some = accepted.1 (limits refl) in absurd (cc)
by_fit width height false limits back (Some s) accepted sides = let fits = back (accepted.0 refl) in absurd (cc)
by_fit width height false limits back None accepted sides = refl

-- a shape with these sides, where there is one, is the one that a plane has
pub shape_is_wide : (width height : ℕ) (result : Option Shape) → (IsSome result ↔ IsWithinLimits width height)
    → IfSome result (λ s. (s.width ≡ width) × (s.height ≡ height)) → result ≡ plane_shape width height
unfolding plane_shape fits_plane
shape_is_wide width height result accepted sides =
    by_fit width height (fits_plane width height) (plane_sides width height)
    (λ within.
    let columns = within.some_columns in
    let rows = within.some_rows in
    let few_columns = within.few_columns in
    let few_rows = within.few_rows in
    let few_pixels = within.few_pixels in
    grind (arith, nat_tests))
    result accepted sides
