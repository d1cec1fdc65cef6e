-- The shape that two sides have, as it is asked for.
use Rattle.std.proofs.Common.{◌≡◌, ℕ, ◌*◌, ◌^◌, ◌≤◌, List, Bool, true, false, refl, sym, arith, IfSome}
use Rattle.std.specs.Prelude.{◌↔◌, IsSome, Option, Some, None, option_and_then}
use Rattle.comp_tree.specs.declared.shape.Shape.{Shape}
use Rattle.comp_tree.specs.Limits.{IsWithinLimits, IsWithinUsualLimits}
use Rattle.comp_tree.specs.Shapes.{fits_limits, limits_from, usual_from, shape_if, shape_of}
use Rattle.comp_tree.proofs.Exported.{shape_of_sides}
use Rattle.orders.specs.declared.options.Setting.TheVariants.{Width, Height}
use Rattle.orders.specs.Options.{positive_u16_in}
use Rattle.orders.specs.Words.{given, shape_given}

none_if : (width height : ℕ) (within : Bool) (limits : within ≡ true → IsWithinLimits width height) → (within ≡ true → ⊥)
    → None ≡ shape_if width height within limits
none_if width height true limits not_so = absurd (not_so refl)
none_if width height false limits not_so = refl

pub shape_is : (width height : ℕ) (result : Option Shape) → (IsSome result ↔ IsWithinUsualLimits width height)
    → IfSome result (λ s. (s.width ≡ width) × (s.height ≡ height)) → result ≡ shape_of width height
unfolding shape_of
shape_is width height (Some s) accepted sides =
    let few : width * height ≤ 2 ^ 24 = (accepted.0 refl).few_pixels in
    let same : s.width * s.height ≡ width * height = λ i. sides.0 i * sides.1 i in
    sym (shape_of_sides width height s sides.0 sides.1 (omega (arith, few, same)))
shape_is width height None accepted sides =
    none_if width height (fits_limits width height) (limits_from width height) (λ within. let some = accepted.1 (usual_from width height within) in absurd (cc))

pub shape_by : (words : List (List ℕ)) (n : ℕ) (width height : Option ℕ) → width ≡ given positive_u16_in words n Width
    → height ≡ given positive_u16_in words n Height
    → option_and_then (λ w. option_and_then (shape_of w) height) width ≡ shape_given words n
unfolding shape_given
shape_by words n width height p q = λ i. option_and_then (λ w. option_and_then (shape_of w) (q i)) (p i)
