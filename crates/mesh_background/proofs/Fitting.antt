-- Numbers of bounded size: that they fit their type, and what the code computes on the way between two of them.
use Rattle.std.proofs.Common.{◌≡◌, ℕ, ◌-◌, ◌*◌, ◌<◌, ◌≤◌, ◌^◌, zero, suc, sym, ap, subst, ◌∙◌, arith}
use Rattle.std.specs.Prelude.{ℤ, pos, negsuc, neg_ℤ, ◌+ℤ◌, ◌*ℤ◌, ◌≤ℤ◌, unsigned_abs}
use Rattle.std.proofs.lemmas.Int.{ints, to_z-of_z, fits_signed_from_abs}
use Rattle.std.proofs.Math.IntN.{pos-*ℤ-pos, pos-*ℤ-negsuc}
use Rattle.std.proofs.Math.Nat.{mul-le-mul_right}
use mir.Syntax.{Width}
use mir.Val.{SFits, of_z, to_z, hbits}
use Rattle.lemmas.proofs.Exported.{times-le}
use Rattle.mesh_background.specs.Interpolation.{part_way}
use Rattle.mesh_background.proofs.Scaling.{way-from, way-up_to}

-- a number lies from -n to n
pub record IsUpTo (n : ℕ) (z : ℤ) : Type 0 where
  pub low : neg_ℤ (pos n) ≤ℤ z
  pub high : z ≤ℤ pos n

pub up_to-fits : (w : Width) (n : ℕ) (z : ℤ) → n < 2 ^ hbits w → IsUpTo n z → SFits w z
up_to-fits w n z few h = fits_signed_from_abs w z (go z h)
  where
    go : (y : ℤ) → IsUpTo n y → unsigned_abs y < 2 ^ hbits w
    go (pos m) k = let high : _ = k.high in omega (arith, ints, high, few)
    go (negsuc m) k = let low : _ = k.low in omega (arith, ints, low, few)

pub up_to-pos : (n k : ℕ) → k ≤ n → IsUpTo n (pos k)
up_to-pos n k le = record { low = omega (arith, ints); high = omega (arith, ints) }

times-neg : (k n : ℕ) → pos k *ℤ neg_ℤ (pos n) ≡ neg_ℤ (pos (k * n))
times-neg k zero =
    let e : pos k *ℤ pos 0 ≡ pos (k * 0) = pos-*ℤ-pos k 0 in
    let none : k * 0 ≡ 0 = omega arith in
    e ∙ ap pos none ∙ ap (λ (n : ℕ). neg_ℤ (pos n)) (sym none)
times-neg k (suc n) = pos-*ℤ-negsuc k n

pub up_to-way : (whole part n : ℕ) (p q : ℤ) → part ≤ whole → IsUpTo n p → IsUpTo n q → IsUpTo (whole * n) (part_way whole part p q)
up_to-way whole part n p q le a b =
    let z : ℤ = part_way whole part p q in
    record {
      low = subst (λ (y : ℤ). y ≤ℤ z) (times-neg whole n) (way-from whole part p q (neg_ℤ (pos n)) le a.low b.low);
      high = subst (λ (y : ℤ). z ≤ℤ y) (pos-*ℤ-pos whole n) (way-up_to whole part p q (pos n) le a.high b.high);
    }

-- and back: a number up to whole * n, compared with whole times the bounds
pub up_to-low : (whole n : ℕ) (z : ℤ) → IsUpTo (whole * n) z → (pos whole *ℤ neg_ℤ (pos n)) ≤ℤ z
up_to-low whole n z h = subst (λ (y : ℤ). y ≤ℤ z) (sym (times-neg whole n)) h.low

pub up_to-high : (whole n : ℕ) (z : ℤ) → IsUpTo (whole * n) z → z ≤ℤ (pos whole *ℤ pos n)
up_to-high whole n z h = subst (λ (y : ℤ). z ≤ℤ y) (sym (pos-*ℤ-pos whole n)) h.high

pub up_to-times : (k n : ℕ) (z : ℤ) → IsUpTo n z → IsUpTo (k * n) (pos k *ℤ z)
up_to-times k n z h = record {
  low = subst (λ (y : ℤ). y ≤ℤ (pos k *ℤ z)) (times-neg k n) (times-le k (neg_ℤ (pos n)) z h.low);
  high = subst (λ (y : ℤ). (pos k *ℤ z) ≤ℤ y) (pos-*ℤ-pos k n) (times-le k z (pos n) h.high);
}

-- a number as it is kept in a type of this width
abbrev pub kept : Width → ℤ → ℤ
kept w z = to_z w (of_z w z)

pub product-kept : (w : Width) (k whole n : ℕ) (p : ℤ) → k ≤ whole → IsUpTo n p → whole < 2 ^ hbits w → n < 2 ^ hbits w → whole * n < 2 ^ hbits w
    → kept w (kept w (pos k) *ℤ kept w p) ≡ pos k *ℤ p
product-kept w k whole n p le h few small fits =
    let more : k * n ≤ whole * n = mul-le-mul_right n le in
    let first : kept w (pos k) ≡ pos k = to_z-of_z w (pos k) (up_to-fits w whole (pos k) few (up_to-pos whole k le)) in
    let second : kept w p ≡ p = to_z-of_z w p (up_to-fits w n p small h) in
    ap (λ (z : ℤ). kept w (z *ℤ kept w p)) first ∙ ap (λ (z : ℤ). kept w (pos k *ℤ z)) second
    ∙ to_z-of_z w (pos k *ℤ p) (up_to-fits w (k * n) (pos k *ℤ p) (omega (arith, more, fits)) (up_to-times k n p h))

-- the product before it is kept, of numbers that are equal to these
pub product-is : (w : Width) (k whole n : ℕ) (m p first : ℤ) → m ≡ pos k → first ≡ p → k ≤ whole → IsUpTo n p → whole < 2 ^ hbits w → n < 2 ^ hbits w
    → kept w m *ℤ kept w first ≡ pos k *ℤ p
product-is w k whole n m p first em ep le h few small =
    (λ i. kept w (em i) *ℤ kept w (ep i))
    ∙ (λ i. to_z-of_z w (pos k) (up_to-fits w whole (pos k) few (up_to-pos whole k le)) i *ℤ to_z-of_z w p (up_to-fits w n p small h) i)

pub product-fits : (w : Width) (k whole n : ℕ) (m p first : ℤ) → m ≡ pos k → first ≡ p → k ≤ whole → IsUpTo n p → whole < 2 ^ hbits w → n < 2 ^ hbits w
    → whole * n < 2 ^ hbits w → SFits w (kept w m *ℤ kept w first)
product-fits w k whole n m p first em ep le h few small fits =
    let more : k * n ≤ whole * n = mul-le-mul_right n le in
    subst (λ (z : ℤ). SFits w z) (sym (product-is w k whole n m p first em ep le h few small))
    (up_to-fits w (k * n) (pos k *ℤ p) (omega (arith, more, fits)) (up_to-times k n p h))

-- what the code adds up on the way from p to q
pub way-kept : (w : Width) (whole part n : ℕ) (p q : ℤ) → part ≤ whole → IsUpTo n p → IsUpTo n q → whole < 2 ^ hbits w → n < 2 ^ hbits w
    → whole * n < 2 ^ hbits w
    → kept w (kept w (pos (whole - part)) *ℤ kept w p) +ℤ kept w (kept w (pos part) *ℤ kept w q) ≡ part_way whole part p q
unfolding part_way
way-kept w whole part n p q le a b few small fits =
    ap (λ (z : ℤ). z +ℤ kept w (kept w (pos part) *ℤ kept w q)) (product-kept w (whole - part) whole n p (omega arith) a few small fits)
    ∙ ap (λ (z : ℤ). pos (whole - part) *ℤ p +ℤ z) (product-kept w part whole n q le b few small fits)

-- the same, of numbers that are equal to these
pub way-computed : (w : Width) (whole part n : ℕ) (m k p q first second : ℤ) → m ≡ pos (whole - part) → k ≡ pos part → first ≡ p → second ≡ q
    → part ≤ whole → IsUpTo n p → IsUpTo n q → whole < 2 ^ hbits w → n < 2 ^ hbits w → whole * n < 2 ^ hbits w
    → kept w (kept w m *ℤ kept w first) +ℤ kept w (kept w k *ℤ kept w second) ≡ part_way whole part p q
way-computed w whole part n m k p q first second em ek ep eq le a b few small fits =
    (λ i. kept w (kept w (em i) *ℤ kept w (ep i)) +ℤ kept w (kept w (ek i) *ℤ kept w (eq i))) ∙ way-kept w whole part n p q le a b few small fits
