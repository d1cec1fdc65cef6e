-- The numbers that are met while a row is made fit the integers that hold them.
use Rattle.std.proofs.Common.{◌≡◌, ℕ, ◌+◌, ◌-◌, ◌*◌, ◌/◌, ◌^◌, ◌<◌, zero, suc, refl, sym, ◌∙◌, ap, subst, arith, lit<}
use Rattle.std.specs.Prelude.{ℤ, pos, negsuc, ◌-ℤ◌, ◌*ℤ◌, ◌≤ℤ◌, ◌≤◌}
use Rattle.std.proofs.lemmas.Int.{ints, to_z-of_z, to_z_pos, of_z-to_z}
use mir.Syntax.{w64, w128}
use mir.Val.{Fits, SFits, of_z, to_z}
use Rattle.node_sums.specs.Sizes.{IsUpTo}
use Rattle.node_sums.proofs.Exported.{up_to-times, up_to-minus, fits}
use Rattle.source_pick.specs.Numbers.{IsMoment, IsMean, IsSpread}
use Rattle.source_pick.proofs.PassesReadings.{wide}
use Rattle.source_pick.proofs.CellsMeans.{spread_fits, difference-read, thousand_fits, thousand_between, thousand_moments_fit}

-- ---- from 64 bits to 128

pub widened : (z : ℤ) → SFits w64 z → SFits w128 (to_z w64 (of_z w64 z))
widened z f = subst (SFits w128) (sym (to_z-of_z w64 z f)) (record { sfits = omega (arith, f.sfits) })

pub pos_widened : (n : ℕ) → n < 2 ^ 64 → SFits w128 (pos n)
pos_widened n l = record { sfits = omega (arith, l) }

-- ---- the weighted sum

weight_fits : (base : ℤ) (sum : ℕ) → IsUpTo (2 ^ 37) base → sum ≤ 2 ^ 47 → IsUpTo (2 ^ 84) (base *ℤ pos sum)
weight_fits base sum h k = up_to-times (2 ^ 37) (2 ^ 47) sum base h k

weight-read : (base : ℤ) (sum : ℕ) → sum ≤ 2 ^ 47 → SFits w64 base
    → to_z w128 (of_z w128 (to_z w64 (of_z w64 base))) *ℤ to_z w128 sum ≡ base *ℤ pos sum
weight-read base sum k f =
    ap (λ (z : ℤ). z *ℤ to_z w128 sum) (wide base f) ∙ ap (λ (z : ℤ). base *ℤ z) (to_z_pos w128 sum (omega (arith, k)))

pub product_fits : (moment base : ℤ) (sum : ℕ) → IsMoment moment base sum → SFits w64 base
    → SFits w128 (to_z w128 (of_z w128 (to_z w64 (of_z w64 base))) *ℤ to_z w128 sum)
product_fits moment base sum k f =
    subst (SFits w128) (sym (weight-read base sum k.sum_small f))
    (fits w128 (2 ^ 84) (base *ℤ pos sum) (weight_fits base sum k.base_small k.sum_small) (lit< tt))

pub weighted_fits : (moment base : ℤ) (sum : ℕ) → IsMoment moment base sum → SFits w64 base
    → SFits w128 (to_z w128 (of_z w128 moment) -ℤ to_z w128 (of_z w128 (to_z w128 (of_z w128 (to_z w64 (of_z w64 base))) *ℤ to_z w128 sum)))
weighted_fits moment base sum k f =
    subst (SFits w128)
    (sym (ap (λ (z : ℤ). z -ℤ to_z w128 (of_z w128 (to_z w128 (of_z w128 (to_z w64 (of_z w64 base))) *ℤ to_z w128 sum)))
    (to_z-of_z w128 moment (fits w128 (2 ^ 84) moment k.moment_small (lit< tt)))
    ∙ ap (λ (z : ℤ). moment -ℤ to_z w128 (of_z w128 z)) (weight-read base sum k.sum_small f)
    ∙ ap (λ (z : ℤ). moment -ℤ z) (to_z-of_z w128 (base *ℤ pos sum) (fits w128 (2 ^ 84) (base *ℤ pos sum) weight (lit< tt)))))
    (fits w128 (2 ^ 84 + 2 ^ 84) (moment -ℤ base *ℤ pos sum) (up_to-minus (2 ^ 84) (2 ^ 84) moment (base *ℤ pos sum) k.moment_small weight) (lit< tt))
  where
    weight : IsUpTo (2 ^ 84) (base *ℤ pos sum)
    weight = weight_fits base sum k.base_small k.sum_small

-- ---- a coordinate of the centre

pub thousand_sums_fit : (moment : ℤ) (sum : ℕ) (flux : ℤ) (area : ℕ) → IsMean moment sum flux area 0 65535 → Fits w64 (1000 * sum)
thousand_sums_fit moment sum flux area k = record { fits = omega (arith, k.sum_high, k.few) }

pub mean_fits : (moment : ℤ) (sum : ℕ) (flux : ℤ) (area : ℕ) → IsMean moment sum flux area 0 65535 → SFits w64 (pos (1000 * sum / area))
mean_fits moment sum flux area k =
    record { sfits = omega (arith, (thousand_between sum area 0 65535 k.some k.sum_low k.sum_high).1) }

pub thousand_moments_read_fit : (moment : ℤ) (sum : ℕ) (flux : ℤ) (area : ℕ) → IsMean moment sum flux area 0 65535 → SFits w128 moment
    → SFits w128 (pos 1000 *ℤ to_z w128 (of_z w128 moment))
thousand_moments_read_fit moment sum flux area k m =
    subst (λ (z : ℤ). SFits w128 (pos 1000 *ℤ z)) (sym (to_z-of_z w128 moment m)) (thousand_moments_fit moment sum flux area k)

some_flux : (flux : ℤ) → pos 0 ≤ℤ flux → (of_z w64 flux ≡ 0 → ⊥) → 0 < of_z w128 flux
some_flux (pos zero) h some = absurd (some refl)
some_flux (pos (suc n)) h some = omega arith
some_flux (negsuc n) h some = absurd (omega (arith, ints))

pub flux_is_there : (moment : ℤ) (sum : ℕ) (flux : ℤ) (area : ℕ) → IsMean moment sum flux area 0 65535 → SFits w64 flux → (of_z w64 flux ≡ 0 → ⊥)
    → 0 < of_z w128 (to_z w128 (of_z w128 (to_z w64 (of_z w64 flux))))
flux_is_there moment sum flux area k f some =
    subst (λ (z : ℤ). 0 < of_z w128 z) (sym (wide flux f)) (some_flux flux k.not_negative some)

not_all_bits : (flux : ℤ) → pos 0 ≤ℤ flux → flux ≤ℤ pos (2 ^ 62) → of_z w128 flux ≡ 2 ^ 128 - 1 → ⊥
not_all_bits (pos n) h s e = let l : pos n ≤ℤ pos (2 ^ 62) = s in omega (arith, ints)
not_all_bits (negsuc n) h s e = absurd (omega (arith, ints))

pub flux_is_not_minus_one : (moment : ℤ) (sum : ℕ) (flux : ℤ) (area : ℕ) → IsMean moment sum flux area 0 65535 → SFits w64 flux
    → of_z w128 (to_z w128 (of_z w128 (to_z w64 (of_z w64 flux)))) ≡ 2 ^ 128 - 1 → ⊥
flux_is_not_minus_one moment sum flux area k f e = not_all_bits flux k.not_negative k.small (ap (of_z w128) (sym (wide flux f)) ∙ e)

-- ---- a spread

pub whole_fits : (area products first second : ℕ) → IsSpread area products first second → Fits w128 (area * products)
whole_fits area products first second k = record { fits = omega (arith, (spread_fits area products first second k).whole) }

pub apart_fits : (area products first second : ℕ) → IsSpread area products first second → Fits w128 (first * second)
apart_fits area products first second k = record { fits = omega (arith, (spread_fits area products first second k).apart) }

pub whole_fits_signed : (area products first second : ℕ) → IsSpread area products first second → SFits w128 (pos (area * products))
whole_fits_signed area products first second k = record { sfits = omega (arith, (spread_fits area products first second k).whole) }

pub apart_fits_signed : (area products first second : ℕ) → IsSpread area products first second → SFits w128 (pos (first * second))
apart_fits_signed area products first second k = record { sfits = omega (arith, (spread_fits area products first second k).apart) }

pub square_fits : (area products first second : ℕ) → IsSpread area products first second → Fits w64 (area * area)
square_fits area products first second k = record { fits = omega (arith, (spread_fits area products first second k).square) }

pub square_fits_signed : (area products first second : ℕ) → IsSpread area products first second → SFits w128 (pos (area * area))
square_fits_signed area products first second k = record { sfits = omega (arith, (spread_fits area products first second k).square) }

pub thousand_differences_fit : (area products first second : ℕ) → IsSpread area products first second
    → SFits w128 (pos 1000 *ℤ to_z w128 (of_z w128 (to_z w128 (area * products) -ℤ to_z w128 (first * second))))
thousand_differences_fit area products first second k =
    subst (λ (z : ℤ). SFits w128 (pos 1000 *ℤ z)) (sym (difference-read area products first second k)) (thousand_fits area products first second k)

square-read : (area products first second : ℕ) → IsSpread area products first second → of_z w128 (to_z w128 (area * area)) ≡ area * area
square-read area products first second k = of_z-to_z w128 (area * area) (omega (arith, (spread_fits area products first second k).square))

pub square_is_there : (area products first second : ℕ) → IsSpread area products first second → 0 < of_z w128 (to_z w128 (area * area))
square_is_there area products first second k =
    subst (λ (n : ℕ). 0 < n) (sym (square-read area products first second k)) (spread_fits area products first second k).some_square

pub square_is_not_minus_one : (area products first second : ℕ) → IsSpread area products first second
    → of_z w128 (to_z w128 (area * area)) ≡ 2 ^ 128 - 1 → ⊥
square_is_not_minus_one area products first second k e =
    let f : area * area ≡ 2 ^ 128 - 1 = sym (square-read area products first second k) ∙ e in
    let l : area * area < 2 ^ 63 = (spread_fits area products first second k).square in
    omega arith
