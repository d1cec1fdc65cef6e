-- Limits are known by their numbers.
use Rattle.std.proofs.Common.{◌≡◌, ℕ, ℤ, ap, subst}
use Rattle.std.proofs.Props.{props}
use Rattle.pixel_plane.specs.declared.limits.Limits.{Limits}
use Rattle.pixel_plane.specs.ValueRanges.{IsRangeOfValues}

abbrev pub limits_of : (pixels : ℕ) (least greatest : ℤ) → IsRangeOfValues least greatest → Limits
limits_of pixels least greatest range = record { pixels = pixels; least = least; greatest = greatest; range = range }

one_range : (least greatest : ℤ) → IsProp (IsRangeOfValues least greatest)
one_range least greatest = hlevel props

pub same_limits : (pixels : ℕ) (least greatest : ℤ) (range other : IsRangeOfValues least greatest)
    → limits_of pixels least greatest range ≡ limits_of pixels least greatest other
same_limits pixels least greatest range other = ap (limits_of pixels least greatest) (one_range least greatest range other)

pub limits_are : (pixels : ℕ) (least greatest least' greatest' : ℤ) (range : IsRangeOfValues least greatest) (other : IsRangeOfValues least' greatest')
    → least ≡ least' → greatest ≡ greatest' → limits_of pixels least greatest range ≡ limits_of pixels least' greatest' other
limits_are pixels least greatest least' greatest' range other p q =
    let highest : (more : IsRangeOfValues least greatest') → limits_of pixels least greatest range ≡ limits_of pixels least greatest' more =
    subst (λ (g : ℤ). (more : IsRangeOfValues least g) → limits_of pixels least greatest range ≡ limits_of pixels least g more) q
    (λ more. same_limits pixels least greatest range more) in
    subst (λ (l : ℤ). (more : IsRangeOfValues l greatest') → limits_of pixels least greatest range ≡ limits_of pixels l greatest' more) p highest other
