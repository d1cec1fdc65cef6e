-- Whole numbers times natural ones, and quotients that are rounded down.
use Rattle.std.proofs.Common.{◌≡◌, ℕ, ◌+◌, ◌*◌, ◌/◌, ◌%◌, ◌<◌, zero, suc, ap, ◌∙◌, arith}
use Rattle.std.specs.Prelude.{ℤ, pos, negsuc, neg_ℤ, ◌+ℤ◌, ◌*ℤ◌, ◌≤ℤ◌, ◌<ℤ◌}
use Rattle.std.specs.Int.{int_div_euclid}
use Rattle.std.proofs.lemmas.Int.{ints, by_lt_z}
use Rattle.std.proofs.lemmas.Nat.{div-add-mod', mod_below}
use Rattle.std.proofs.Math.Nat.{mul_comm}
use Rattle.std.proofs.Math.IntN.{zero-*ℤ, suc_ℤ-*ℤ, pos-*ℤ-pos, pos-*ℤ-negsuc, *ℤ_comm}

-- ---- a natural number of times

pub times-zero : (z : ℤ) → pos 0 *ℤ z ≡ pos 0
times-zero z = zero-*ℤ z

pub times-suc : (k : ℕ) (z : ℤ) → pos (suc k) *ℤ z ≡ pos k *ℤ z +ℤ z
times-suc k z = suc_ℤ-*ℤ (pos k) z

pub times-le : (k : ℕ) (y z : ℤ) → y ≤ℤ z → (pos k *ℤ y) ≤ℤ (pos k *ℤ z)
times-le zero y z h = let a : _ = times-zero y in let b : _ = times-zero z in omega (arith, ints, a, b)
times-le (suc k) y z h =
    let a : _ = times-suc k y in
    let b : _ = times-suc k z in
    let ih : _ = times-le k y z h in
    omega (arith, ints, a, b, ih)

pub times-plus : (k l : ℕ) (z : ℤ) → pos (k + l) *ℤ z ≡ pos k *ℤ z +ℤ pos l *ℤ z
times-plus zero l z =
    let e : zero + l ≡ l = omega arith in
    let a : _ = times-zero z in
    ap (λ (n : ℕ). pos n *ℤ z) e ∙ omega (arith, ints, a)
times-plus (suc k) l z =
    let e : suc k + l ≡ suc (k + l) = omega arith in
    let a : _ = times-suc k z in
    let b : _ = times-suc (k + l) z in
    let ih : _ = times-plus k l z in
    ap (λ (n : ℕ). pos n *ℤ z) e ∙ omega (arith, ints, a, b, ih)

pub times-sum : (k : ℕ) (y z : ℤ) → pos k *ℤ (y +ℤ z) ≡ pos k *ℤ y +ℤ pos k *ℤ z
times-sum zero y z =
    let a : _ = times-zero y in
    let b : _ = times-zero z in
    let c : _ = times-zero (y +ℤ z) in
    omega (arith, ints, a, b, c)
times-sum (suc k) y z =
    let a : _ = times-suc k y in
    let b : _ = times-suc k z in
    let c : _ = times-suc k (y +ℤ z) in
    let ih : _ = times-sum k y z in
    omega (arith, ints, a, b, c, ih)

pub times-times : (k l : ℕ) (z : ℤ) → pos (k * l) *ℤ z ≡ pos k *ℤ (pos l *ℤ z)
times-times zero l z =
    let e : zero * l ≡ 0 = omega arith in
    let a : _ = times-zero z in
    let b : _ = times-zero (pos l *ℤ z) in
    ap (λ (n : ℕ). pos n *ℤ z) e ∙ omega (arith, ints, a, b)
times-times (suc k) l z =
    let e : suc k * l ≡ k * l + l = omega arith in
    let a : _ = times-plus (k * l) l z in
    let b : _ = times-suc k (pos l *ℤ z) in
    let ih : _ = times-times k l z in
    ap (λ (n : ℕ). pos n *ℤ z) e ∙ omega (arith, ints, a, b, ih)

-- ---- rounded down

-- q is the quotient of z by d, rounded down
pub record IsFloor (z : ℤ) (d : ℕ) (q : ℤ) : Type 0 where
  pub low : (pos d *ℤ q) ≤ℤ z
  pub high : z <ℤ (pos d *ℤ q +ℤ pos d)

pub floor-is : (z : ℤ) (d : ℕ) → 0 < d → IsFloor z d (int_div_euclid z (pos d))
floor-is (pos a) d some =
    let e : pos d *ℤ pos (a / d) ≡ pos (d * (a / d)) = pos-*ℤ-pos d (a / d) in
    let whole : a / d * d + a % d ≡ a = div-add-mod' a d in
    let rest : a % d < d = mod_below a d some in
    let swap : d * (a / d) ≡ a / d * d = mul_comm d (a / d) in
    record { low = omega (arith, ints, e, whole, rest, swap); high = omega (arith, ints, e, whole, rest, swap) }
floor-is (negsuc a) d some =
    let e : pos d *ℤ negsuc (a / d) ≡ neg_ℤ (pos (d * suc (a / d))) = pos-*ℤ-negsuc d (a / d) in
    let whole : a / d * d + a % d ≡ a = div-add-mod' a d in
    let rest : a % d < d = mod_below a d some in
    let swap : d * suc (a / d) ≡ suc (a / d) * d = mul_comm d (suc (a / d)) in
    let more : suc (a / d) * d ≡ a / d * d + d = omega arith in
    record { low = omega (arith, ints, e, whole, rest, swap, more); high = omega (arith, ints, e, whole, rest, swap, more) }

-- one quotient is not above the other
pub floor-below : (z : ℤ) (d : ℕ) (p q : ℤ) → IsFloor z d p → IsFloor z d q → p ≤ℤ q
floor-below z d p q h k = by_lt_z q p (λ lt. absurd (not_above lt)) (λ le. le)
  where
    not_above : q <ℤ p → ⊥
    not_above lt =
        let more : (pos d *ℤ (q +ℤ pos 1)) ≤ℤ (pos d *ℤ p) = times-le d (q +ℤ pos 1) p (omega (arith, ints)) in
        let sum : pos d *ℤ (q +ℤ pos 1) ≡ pos d *ℤ q +ℤ pos d *ℤ pos 1 = times-sum d q (pos 1) in
        let one : pos d *ℤ pos 1 ≡ pos (d * 1) = pos-*ℤ-pos d 1 in
        let low : _ = h.low in
        let high : _ = k.high in
        absurd (omega (arith, ints, more, sum, one, low, high))

pub floor-one : (z : ℤ) (d : ℕ) (p q : ℤ) → IsFloor z d p → IsFloor z d q → p ≡ q
floor-one z d p q h k =
    let a : p ≤ℤ q = floor-below z d p q h k in
    let b : q ≤ℤ p = floor-below z d q p k h in
    omega (arith, ints, a, b)

-- a quotient lies where the number lies
pub floor-from : (z : ℤ) (d : ℕ) (q low : ℤ) → IsFloor z d q → (pos d *ℤ low) ≤ℤ z → low ≤ℤ q
floor-from z d q low h le = by_lt_z q low (λ lt. absurd (not_above lt)) (λ ge. ge)
  where
    not_above : q <ℤ low → ⊥
    not_above lt =
        let more : (pos d *ℤ (q +ℤ pos 1)) ≤ℤ (pos d *ℤ low) = times-le d (q +ℤ pos 1) low (omega (arith, ints)) in
        let sum : pos d *ℤ (q +ℤ pos 1) ≡ pos d *ℤ q +ℤ pos d *ℤ pos 1 = times-sum d q (pos 1) in
        let one : pos d *ℤ pos 1 ≡ pos (d * 1) = pos-*ℤ-pos d 1 in
        let high : _ = h.high in
        absurd (omega (arith, ints, more, sum, one, high, le))

pub floor-up_to : (z : ℤ) (d : ℕ) (q high : ℤ) → 0 < d → IsFloor z d q → z ≤ℤ (pos d *ℤ high) → q ≤ℤ high
floor-up_to z d q high some h le = by_lt_z high q (λ lt. absurd (not_below lt)) (λ ge. ge)
  where
    not_below : high <ℤ q → ⊥
    not_below lt =
        let more : (pos d *ℤ (high +ℤ pos 1)) ≤ℤ (pos d *ℤ q) = times-le d (high +ℤ pos 1) q (omega (arith, ints)) in
        let sum : pos d *ℤ (high +ℤ pos 1) ≡ pos d *ℤ high +ℤ pos d *ℤ pos 1 = times-sum d high (pos 1) in
        let one : pos d *ℤ pos 1 ≡ pos (d * 1) = pos-*ℤ-pos d 1 in
        let low : _ = h.low in
        absurd (omega (arith, ints, more, sum, one, low, le, some))

-- one time more, from the other side
pub times_suc : (b : ℤ) (n : ℕ) → b *ℤ pos (suc n) ≡ b +ℤ b *ℤ pos n
times_suc b n =
    let e : b *ℤ pos (suc n) ≡ pos n *ℤ b +ℤ b = *ℤ_comm b (pos (suc n)) ∙ suc_ℤ-*ℤ (pos n) b in
    let f : pos n *ℤ b ≡ b *ℤ pos n = *ℤ_comm (pos n) b in
    omega (arith, ints)

-- where the dividend moves by k times the divisor, the quotient moves by k
pub floor-moved : (z : ℤ) (d k : ℕ) → 0 < d → int_div_euclid (z +ℤ pos (d * k)) (pos d) ≡ int_div_euclid z (pos d) +ℤ pos k
floor-moved z d k some =
    floor-one (z +ℤ pos (d * k)) d (int_div_euclid (z +ℤ pos (d * k)) (pos d)) (int_div_euclid z (pos d) +ℤ pos k)
    (floor-is (z +ℤ pos (d * k)) d some) moved
  where
    moved : IsFloor (z +ℤ pos (d * k)) d (int_div_euclid z (pos d) +ℤ pos k)
    moved =
        let f : IsFloor z d (int_div_euclid z (pos d)) = floor-is z d some in
        let sum : pos d *ℤ (int_div_euclid z (pos d) +ℤ pos k) ≡ pos d *ℤ int_div_euclid z (pos d) +ℤ pos d *ℤ pos k =
        times-sum d (int_div_euclid z (pos d)) (pos k) in
        let e : pos d *ℤ pos k ≡ pos (d * k) = pos-*ℤ-pos d k in
        let low : _ = f.low in
        let high : _ = f.high in
        record { low = omega (arith, ints, sum, e, low, high); high = omega (arith, ints, sum, e, low, high) }
