-- The sum of the fluxes, row by row.
use Rattle.std.proofs.Common.{◌≡◌, ◌∙◌, ℕ, ◌+◌, ◌*◌, ◌^◌, ◌<◌, ◌≤◌, List, refl, sym, ap₂, subst, arith, add-one, ℤ, pos, negsuc, neg_ℤ, ◌+ℤ◌, ◌≤ℤ◌}
use Rattle.std.proofs.Common.{to_z, of_z, w64, SFits}
use mir.Syntax.{w128}
use Rattle.std.proofs.lemmas.Int.{ints, to_z-of_z, fits_signed_from_abs}
use Rattle.std.specs.Prelude.{unsigned_abs}
use Rattle.survey_core.specs.Listings.{flux_total, flux_at}

pub total_none : (cells : List ℤ) → pos 0 ≡ flux_total cells 0
unfolding flux_total
total_none cells = refl

total_more : (cells : List ℤ) (n : ℕ) → flux_total cells (n + 1) ≡ flux_total cells n +ℤ flux_at cells n
unfolding flux_total
total_more cells n = rw add-one refl

up_to : (m : ℕ) (z : ℤ) → neg_ℤ (pos m) ≤ℤ z → z ≤ℤ pos m → unsigned_abs z ≤ m
up_to m (pos n) low high = omega (arith, ints, high)
up_to m (negsuc n) low high = omega (arith, ints, low)

bounds : (z : ℤ) → SFits w64 z → (neg_ℤ (pos (2 ^ 63)) ≤ℤ z) × (z ≤ℤ pos (2 ^ 63))
bounds (pos n) fits = (omega (arith, ints), let small = fits.sfits in omega (arith, ints, small))
bounds (negsuc n) fits = (let small = fits.sfits in omega (arith, ints, small), omega (arith, ints))

-- a flux more, and how far the sum can be from 0
pub total_next : (cells : List ℤ) (n : ℕ) (total x y z : ℤ) → total ≡ flux_total cells n → neg_ℤ (pos (n * 2 ^ 63)) ≤ℤ total → total ≤ℤ pos (n * 2 ^ 63)
    → n < 2 ^ 62 → SFits w64 y → y ≡ flux_at cells n
    → x ≡ y → z ≡ to_z w128 (of_z w128 (total +ℤ to_z w128 (of_z w128 x)))
    → (z ≡ flux_total cells (n + 1)) × (neg_ℤ (pos ((n + 1) * 2 ^ 63)) ≤ℤ z) × (z ≤ℤ pos ((n + 1) * 2 ^ 63))
total_next cells n total x y z so_far low high few small here same is =
    let fits : SFits w64 x = subst (λ (v : ℤ). SFits w64 v) (sym same) small in
    let wide : SFits w128 x = record { sfits = omega (arith, fits.sfits) } in
    let ends = bounds x fits in
    let sum_low : neg_ℤ (pos ((n + 1) * 2 ^ 63)) ≤ℤ (total +ℤ x) = omega (arith, ints, low, ends.0) in
    let sum_high : (total +ℤ x) ≤ℤ pos ((n + 1) * 2 ^ 63) = omega (arith, ints, high, ends.1) in
    let sum_wide : SFits w128 (total +ℤ x) =
    fits_signed_from_abs w128 (total +ℤ x) (omega (arith, up_to ((n + 1) * 2 ^ 63) (total +ℤ x) sum_low sum_high, few)) in
    let sum : z ≡ (total +ℤ x) = is ∙ rw (to_z-of_z w128 x wide) (to_z-of_z w128 (total +ℤ x) sum_wide) in (
      sum ∙ ap₂ ◌+ℤ◌ so_far (same ∙ here)
          ∙ sym (total_more cells n),
      subst (λ (v : ℤ). neg_ℤ (pos ((n + 1) * 2 ^ 63)) ≤ℤ v) (sym sum) sum_low,
      subst (λ (v : ℤ). v ≤ℤ pos ((n + 1) * 2 ^ 63)) (sym sum) sum_high,
    )
