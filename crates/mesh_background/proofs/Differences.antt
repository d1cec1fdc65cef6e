-- The value of one pixel less a number: that it fits and lies in the range, and the plane in which it stands.
use Rattle.std.proofs.Common.{◌≡◌, ℕ, ◌+◌, ◌<◌, ◌^◌, List, length, get_or, sym, ap, subst, ◌∙◌, arith}
use Rattle.std.specs.Prelude.{ℤ, ◌-ℤ◌, Option, Some, None, slice_set}
use Rattle.std.specs.Option.{option_map}
use Rattle.std.proofs.lemmas.Int.{ints, to_z-of_z}
use Rattle.std.proofs.lemmas.List.{length-set, get_or-set_other, get_or_default}
use Rattle.std.proofs.lemmas.Grind.{get_or-set_at}
use mir.Syntax.{w64}
use mir.Val.{SFits}
use Rattle.comp_tree.specs.Limits.{IsInHalfRange, IsWithinRange}
use Rattle.comp_tree.specs.Raster.{value_at}
use Rattle.mesh_background.specs.Lessened.{IsLessened}
use Rattle.mesh_background.proofs.Fitting.{IsUpTo, kept, up_to-fits}
use Rattle.mesh_background.proofs.Residuals.{half-fits}

difference-up_to : (v n : ℤ) → IsInHalfRange v → IsInHalfRange n → IsUpTo (2 ^ 37) (v -ℤ n)
difference-up_to v n h k =
    let vl : _ = h.low in
    let vh : _ = h.high in
    let nl : _ = k.low in
    let nh : _ = k.high in
    record { low = omega (arith, ints, vl, nh); high = omega (arith, ints, vh, nl) }

operands-kept : (v n : ℤ) → IsInHalfRange v → IsInHalfRange n → kept w64 v -ℤ kept w64 n ≡ v -ℤ n
operands-kept v n h k = λ i. to_z-of_z w64 v (half-fits v h) i -ℤ to_z-of_z w64 n (half-fits n k) i

difference-kept : (v n : ℤ) → IsInHalfRange v → IsInHalfRange n → kept w64 (kept w64 v -ℤ kept w64 n) ≡ v -ℤ n
difference-kept v n h k =
    ap (kept w64) (operands-kept v n h k) ∙ to_z-of_z w64 (v -ℤ n) (up_to-fits w64 (2 ^ 37) (v -ℤ n) (omega arith) (difference-up_to v n h k))

pub difference-fits : (v n : ℤ) → IsInHalfRange v → IsInHalfRange n → SFits w64 (kept w64 v -ℤ kept w64 n)
difference-fits v n h k =
    subst (λ (z : ℤ). SFits w64 z) (sym (operands-kept v n h k)) (up_to-fits w64 (2 ^ 37) (v -ℤ n) (omega arith) (difference-up_to v n h k))

pub difference-within : (v n : ℤ) → IsInHalfRange v → IsInHalfRange n → IsWithinRange (kept w64 (kept w64 v -ℤ kept w64 n))
difference-within v n h k =
    let up : IsUpTo (2 ^ 37) (v -ℤ n) = difference-up_to v n h k in
    subst (λ (z : ℤ). IsWithinRange z) (sym (difference-kept v n h k)) (record { low = up.low; high = up.high })

-- a pixel that was read
pub pixel-read : (row : List (Option ℤ)) (x : ℕ) (found : Option ℤ) → x < length row → found ≡ get_or row x found → found ≡ value_at row x
pixel-read row x found lt is = is ∙ get_or_default row x found None lt

-- a pixel's value, one that the code took a number from
pub pixel-less : (pixel : Option ℤ) (v n : ℤ) → pixel ≡ Some v → IsInHalfRange v → IsInHalfRange n
    → Some (kept w64 (kept w64 v -ℤ kept w64 n)) ≡ option_map (λ z. z -ℤ n) pixel
pixel-less pixel v n is h k = ap (λ (z : ℤ). Some z) (difference-kept v n h k) ∙ sym (ap (option_map (λ z. z -ℤ n)) is)

-- a list in which it is put in place of the pixel
pub lessened-set : (old : List (Option ℤ)) (x : ℕ) (n : ℤ) (pixel : Option ℤ) → x < length old → pixel ≡ option_map (λ v. v -ℤ n) (value_at old x)
    → IsLessened old (λ _. n) x (x + 1) (slice_set old x pixel)
lessened-set old x n pixel lt is = record {
  one_each = length-set old x pixel;
  before = λ q less. get_or-set_other old x q pixel None (λ there. absurd (omega (arith, less, there)));
  inside = λ q low high.
      let there : q ≡ x = omega (arith, low, high) in
      get_or-set_at old x q pixel None there lt ∙ is ∙ sym (ap (λ (k : ℕ). option_map (λ v. v -ℤ n) (value_at old k)) there);
  behind = λ q le. get_or-set_other old x q pixel None (λ there. absurd (omega (arith, le, there)));
}
