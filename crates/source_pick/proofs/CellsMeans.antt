-- Quotients rounded towards minus infinity, centres and spreads.
use Rattle.std.proofs.Common.{◌≡◌, ℕ, ◌+◌, ◌*◌, ◌/◌, ◌^◌, ◌<◌, ◌≤◌, zero, suc, Bool, true, false, cond, List, [], ◌∷◌, length, refl, sym, ◌∙◌, ap, subst}
use Rattle.std.proofs.Common.{arith, ◌⊎◌, inl, inr, lit<}
use Rattle.std.specs.Prelude.{ℤ, pos, negsuc, neg_ℤ, ◌+ℤ◌, ◌-ℤ◌, ◌*ℤ◌, ◌≤ℤ◌, sum_by}
use Rattle.std.specs.Int.{int_div_euclid}
use Rattle.std.specs.Ordering.{int_eq}
use Rattle.std.proofs.lemmas.Int.{ints, to_z-of_z, to_z_pos}
use Rattle.std.proofs.lemmas.Nat.{mul-le}
use Rattle.std.proofs.lemmas.Bool.{true≢false, cases_lt, false_from_ne_true}
use Rattle.std.proofs.lemmas.List.Sums.{sum_by-cons}
use Rattle.std.proofs.Math.Nat.{mul_comm, mul_assoc, mul-le-mul_left, div-lt_iff_lt-mul}
use Rattle.std.proofs.Math.IntN.{*ℤ_comm, *ℤ-zero, pos-*ℤ-pos}
use mir.Syntax.{w64, w128}
use mir.Val.{SFits, of_z, to_z}
use Rattle.lemmas.proofs.Exported.{IsAmong, int_eq-from, int_eq-true, times_suc}
use Rattle.node_sums.specs.Sums.{total, least, greatest}
use Rattle.node_sums.specs.Sizes.{IsUpTo}
use Rattle.node_sums.proofs.Exported.{up_to-times, up_to-minus, up_to_more, fits}
use Rattle.source_pick.specs.Catalogue.{floor_of, centre_of, spread_of}
use Rattle.source_pick.specs.Numbers.{IsMoment, IsMean, IsSpread}
use Rattle.source_pick.proofs.PassesReadings.{wide}

-- ---- products with natural numbers

pub plus_times : (a b : ℤ) (n : ℕ) → (a +ℤ b) *ℤ pos n ≡ a *ℤ pos n +ℤ b *ℤ pos n
plus_times a b zero =
    let e : (a +ℤ b) *ℤ pos 0 ≡ pos 0 = *ℤ-zero (a +ℤ b) in
    let f : a *ℤ pos 0 ≡ pos 0 = *ℤ-zero a in
    let g : b *ℤ pos 0 ≡ pos 0 = *ℤ-zero b in
    omega (arith, ints)
plus_times a b (suc n) =
    let h : (a +ℤ b) *ℤ pos n ≡ a *ℤ pos n +ℤ b *ℤ pos n = plus_times a b n in
    let e : (a +ℤ b) *ℤ pos (suc n) ≡ a +ℤ b +ℤ (a +ℤ b) *ℤ pos n = times_suc (a +ℤ b) n in
    let f : a *ℤ pos (suc n) ≡ a +ℤ a *ℤ pos n = times_suc a n in
    let g : b *ℤ pos (suc n) ≡ b +ℤ b *ℤ pos n = times_suc b n in
    omega (arith, ints)

pub minus_times : (a b : ℤ) (n : ℕ) → (a -ℤ b) *ℤ pos n ≡ a *ℤ pos n -ℤ b *ℤ pos n
minus_times a b zero =
    let e : (a -ℤ b) *ℤ pos 0 ≡ pos 0 = *ℤ-zero (a -ℤ b) in
    let f : a *ℤ pos 0 ≡ pos 0 = *ℤ-zero a in
    let g : b *ℤ pos 0 ≡ pos 0 = *ℤ-zero b in
    omega (arith, ints)
minus_times a b (suc n) =
    let h : (a -ℤ b) *ℤ pos n ≡ a *ℤ pos n -ℤ b *ℤ pos n = minus_times a b n in
    let e : (a -ℤ b) *ℤ pos (suc n) ≡ a -ℤ b +ℤ (a -ℤ b) *ℤ pos n = times_suc (a -ℤ b) n in
    let f : a *ℤ pos (suc n) ≡ a +ℤ a *ℤ pos n = times_suc a n in
    let g : b *ℤ pos (suc n) ≡ b +ℤ b *ℤ pos n = times_suc b n in
    omega (arith, ints)

pub times_plus : (a : ℤ) (m n : ℕ) → a *ℤ pos (m + n) ≡ a *ℤ pos m +ℤ a *ℤ pos n
times_plus a zero n =
    let z : a *ℤ pos 0 ≡ pos 0 = *ℤ-zero a in
    let e : a *ℤ pos (0 + n) ≡ a *ℤ pos n = ap (λ (k : ℕ). a *ℤ pos k) (omega arith) in
    omega (arith, ints)
times_plus a (suc m) n =
    let h : a *ℤ pos (m + n) ≡ a *ℤ pos m +ℤ a *ℤ pos n = times_plus a m n in
    let e : a *ℤ pos (suc m + n) ≡ a +ℤ a *ℤ pos (m + n) = ap (λ (k : ℕ). a *ℤ pos k) (omega arith) ∙ times_suc a (m + n) in
    let f : a *ℤ pos (suc m) ≡ a +ℤ a *ℤ pos m = times_suc a m in
    omega (arith, ints)

natural : (z : ℤ) → pos 0 ≤ℤ z → (n : ℕ) × (z ≡ pos n)
natural (pos n) h = (n, refl)
natural (negsuc n) h = absurd (omega (arith, ints))

pub times_le : (a : ℤ) (m n : ℕ) → pos 0 ≤ℤ a → m ≤ n → (a *ℤ pos m) ≤ℤ (a *ℤ pos n)
times_le (pos k) m n h l =
    let u : k * m ≤ k * n = mul-le-mul_left k l in
    let e : pos k *ℤ pos m ≡ pos (k * m) = pos-*ℤ-pos k m in
    let f : pos k *ℤ pos n ≡ pos (k * n) = pos-*ℤ-pos k n in
    omega (arith, ints)
times_le (negsuc k) m n h l = absurd (omega (arith, ints))

-- ---- moments

module _ (f : ℕ → ℤ) (x : ℕ → ℕ) (base : ℤ) where
  pub moment_low : (low : ℕ) (ps : List ℕ) → ((p : ℕ) → IsAmong p ps → (pos 0 ≤ℤ (f p -ℤ base)) × (low ≤ x p))
      → (total (λ p. f p -ℤ base) ps *ℤ pos low) ≤ℤ (total (λ p. f p *ℤ pos (x p)) ps -ℤ base *ℤ pos (sum_by x ps))
  moment_low low [] h =
      let a : pos 0 *ℤ pos low ≡ pos 0 = pos-*ℤ-pos 0 low ∙ ap pos (omega arith) in
      let b : base *ℤ pos 0 ≡ pos 0 = *ℤ-zero base in
      omega (arith, ints)
  moment_low low (p ∷ ps) h =
      let ih : (total (λ q. f q -ℤ base) ps *ℤ pos low) ≤ℤ (total (λ q. f q *ℤ pos (x q)) ps -ℤ base *ℤ pos (sum_by x ps)) =
      moment_low low ps (λ q k. h q (inr k)) in
      let a : (f p -ℤ base +ℤ total (λ q. f q -ℤ base) ps) *ℤ pos low ≡ (f p -ℤ base) *ℤ pos low +ℤ total (λ q. f q -ℤ base) ps *ℤ pos low =
      plus_times (f p -ℤ base) (total (λ q. f q -ℤ base) ps) low in
      let b : ((f p -ℤ base) *ℤ pos low) ≤ℤ ((f p -ℤ base) *ℤ pos (x p)) = times_le (f p -ℤ base) low (x p) (h p (inl refl)).0 (h p (inl refl)).1 in
      let c : (f p -ℤ base) *ℤ pos (x p) ≡ f p *ℤ pos (x p) -ℤ base *ℤ pos (x p) = minus_times (f p) base (x p) in
      let d : base *ℤ pos (sum_by x (p ∷ ps)) ≡ base *ℤ pos (x p) +ℤ base *ℤ pos (sum_by x ps) =
      ap (λ (n : ℕ). base *ℤ pos n) (sum_by-cons x p ps) ∙ times_plus base (x p) (sum_by x ps) in
      omega (arith, ints)

  pub moment_high : (high : ℕ) (ps : List ℕ) → ((p : ℕ) → IsAmong p ps → (pos 0 ≤ℤ (f p -ℤ base)) × (x p ≤ high))
      → (total (λ p. f p *ℤ pos (x p)) ps -ℤ base *ℤ pos (sum_by x ps)) ≤ℤ (total (λ p. f p -ℤ base) ps *ℤ pos high)
  moment_high high [] h =
      let a : pos 0 *ℤ pos high ≡ pos 0 = pos-*ℤ-pos 0 high ∙ ap pos (omega arith) in
      let b : base *ℤ pos 0 ≡ pos 0 = *ℤ-zero base in
      omega (arith, ints)
  moment_high high (p ∷ ps) h =
      let ih : (total (λ q. f q *ℤ pos (x q)) ps -ℤ base *ℤ pos (sum_by x ps)) ≤ℤ (total (λ q. f q -ℤ base) ps *ℤ pos high) =
      moment_high high ps (λ q k. h q (inr k)) in
      let a : (f p -ℤ base +ℤ total (λ q. f q -ℤ base) ps) *ℤ pos high ≡ (f p -ℤ base) *ℤ pos high +ℤ total (λ q. f q -ℤ base) ps *ℤ pos high =
      plus_times (f p -ℤ base) (total (λ q. f q -ℤ base) ps) high in
      let b : ((f p -ℤ base) *ℤ pos (x p)) ≤ℤ ((f p -ℤ base) *ℤ pos high) = times_le (f p -ℤ base) (x p) high (h p (inl refl)).0 (h p (inl refl)).1 in
      let c : (f p -ℤ base) *ℤ pos (x p) ≡ f p *ℤ pos (x p) -ℤ base *ℤ pos (x p) = minus_times (f p) base (x p) in
      let d : base *ℤ pos (sum_by x (p ∷ ps)) ≡ base *ℤ pos (x p) +ℤ base *ℤ pos (sum_by x ps) =
      ap (λ (n : ℕ). base *ℤ pos n) (sum_by-cons x p ps) ∙ times_plus base (x p) (sum_by x ps) in
      omega (arith, ints)

-- ---- sums of coordinates

pub sum_low : (x : ℕ → ℕ) (low : ℕ) (ps : List ℕ) → ((p : ℕ) → IsAmong p ps → low ≤ x p) → low * length ps ≤ sum_by x ps
sum_low x low [] h = omega arith
sum_low x low (p ∷ ps) h =
    let ih : low * length ps ≤ sum_by x ps = sum_low x low ps (λ q k. h q (inr k)) in
    let a : low ≤ x p = h p (inl refl) in
    let e : sum_by x (p ∷ ps) ≡ x p + sum_by x ps = sum_by-cons x p ps in
    omega arith

pub sum_high : (x : ℕ → ℕ) (high : ℕ) (ps : List ℕ) → ((p : ℕ) → IsAmong p ps → x p ≤ high) → sum_by x ps ≤ high * length ps
sum_high x high [] h = omega arith
sum_high x high (p ∷ ps) h =
    let ih : sum_by x ps ≤ high * length ps = sum_high x high ps (λ q k. h q (inr k)) in
    let a : x p ≤ high = h p (inl refl) in
    let e : sum_by x (p ∷ ps) ≡ x p + sum_by x ps = sum_by-cons x p ps in
    omega arith

pub least_low : (x : ℕ → ℕ) (ps : List ℕ) (p : ℕ) → IsAmong p ps → least x ps ≤ x p
least_low x [] p h = absurd h
least_low x (q ∷ ps) p (inl e) = let f : x q ≡ x p = ap x e in omega arith
least_low x (q ∷ ps) p (inr h) = let ih : least x ps ≤ x p = least_low x ps p h in omega arith

pub greatest_high : (x : ℕ → ℕ) (ps : List ℕ) (p : ℕ) → IsAmong p ps → x p ≤ greatest x ps
greatest_high x [] p h = absurd h
greatest_high x (q ∷ ps) p (inl e) = let f : x q ≡ x p = ap x e in omega arith
greatest_high x (q ∷ ps) p (inr h) = let ih : x p ≤ greatest x ps = greatest_high x ps p h in omega arith

pub greatest_small : (x : ℕ → ℕ) (k : ℕ) (ps : List ℕ) → ((p : ℕ) → IsAmong p ps → x p ≤ k) → greatest x ps ≤ k
greatest_small x k [] h = omega arith
greatest_small x k (p ∷ ps) h =
    let ih : greatest x ps ≤ k = greatest_small x k ps (λ q l. h q (inr l)) in
    let a : x p ≤ k = h p (inl refl) in
    omega arith

-- ---- quotients

quotient_low : (a d m : ℕ) → 0 < d → m * d ≤ a → m ≤ a / d
quotient_low a d m some h = go (cases_lt (a / d) m)
  where
    go : (a / d < m) ⊎ (m ≤ a / d) → m ≤ a / d
    go (inl l) = let k : a < m * d = (div-lt_iff_lt-mul {k = d} {x = a} {y = m} some).0 l in absurd (omega arith)
    go (inr l) = l

quotient_below : (a d m : ℕ) → 0 < d → a < m * d → a / d < m
quotient_below a d m some h = (div-lt_iff_lt-mul {k = d} {x = a} {y = m} some).1 h

quotient_high : (a d m : ℕ) → 0 < d → a ≤ m * d → a / d ≤ m
quotient_high a d m some h = let l : a / d < suc m = quotient_below a d (suc m) some (let e : suc m * d ≡ m * d + d = omega arith in omega arith) in omega arith

pub floor_up_to : (a : ℤ) (d m : ℕ) → 0 < d → IsUpTo (m * d) a → IsUpTo m (int_div_euclid a (pos d))
floor_up_to (pos n) d m some h =
    let u : pos n ≤ℤ pos (m * d) = h.high in
    let l : n / d ≤ m = quotient_high n d m some (omega (arith, ints)) in
    record { low = omega (arith, ints); high = omega (arith, ints) }
floor_up_to (negsuc n) d m some h =
    let u : neg_ℤ (pos (m * d)) ≤ℤ negsuc n = h.low in
    let l : n / d < m = quotient_below n d m some (omega (arith, ints)) in
    record { low = omega (arith, ints); high = omega (arith, ints) }

-- ---- the centre

-- a thousand times a mean lies between a thousand times the bounds
pub thousand_between : (sum area low high : ℕ) → 0 < area → low * area ≤ sum → sum ≤ high * area
    → (1000 * low ≤ 1000 * sum / area) × (1000 * sum / area ≤ 1000 * high)
thousand_between sum area low high some l h =
    let a : 1000 * low * area ≡ 1000 * (low * area) = mul_assoc 1000 low area in
    let b : 1000 * high * area ≡ 1000 * (high * area) = mul_assoc 1000 high area in
    (quotient_low (1000 * sum) area (1000 * low) some (omega arith), quotient_high (1000 * sum) area (1000 * high) some (omega arith))

-- how a centre lies in its bounds
pub record IsCentre (z : ℤ) (low high : ℕ) : Type 0 where
  pub above : (pos 1000 *ℤ pos low) ≤ℤ z
  pub below : z ≤ℤ (pos 1000 *ℤ pos high)

without_flux : (sum area low high : ℕ) → 0 < area → low * area ≤ sum → sum ≤ high * area → IsCentre (floor_of (pos (1000 * sum)) (pos area)) low high
without_flux sum area low high some l h =
    let t = thousand_between sum area low high some l h in
    record { above = omega (arith, ints, t.0, pos-*ℤ-pos 1000 low); below = omega (arith, ints, t.1, pos-*ℤ-pos 1000 high) }

with_flux : (moment flux : ℤ) (low high : ℕ) → (flux ≡ pos 0 → ⊥) → pos 0 ≤ℤ flux → (flux *ℤ pos low) ≤ℤ moment → moment ≤ℤ (flux *ℤ pos high)
    → IsCentre (floor_of (pos 1000 *ℤ moment) flux) low high
with_flux moment (negsuc f) low high some h l u = absurd (omega (arith, ints))
with_flux (negsuc m) (pos f) low high some h l u = absurd (let e : pos f *ℤ pos low ≡ pos (f * low) = pos-*ℤ-pos f low in omega (arith, ints))
with_flux (pos m) (pos f) low high some h l u =
    let e : pos f *ℤ pos low ≡ pos (f * low) = pos-*ℤ-pos f low in
    let g : pos f *ℤ pos high ≡ pos (f * high) = pos-*ℤ-pos f high in
    let c : f * low ≡ low * f = mul_comm f low in
    let d : f * high ≡ high * f = mul_comm f high in
    let a : low * f ≤ m = omega (arith, ints) in
    let b : m ≤ high * f = omega (arith, ints) in
    without_flux m f low high (positive f some) a b
  where
    positive : (f : ℕ) → (pos f ≡ pos 0 → ⊥) → 0 < f
    positive zero k = absurd (k refl)
    positive (suc n) k = omega arith

pub centred : (moment : ℤ) (sum : ℕ) (flux : ℤ) (area low high : ℕ) → IsMean moment sum flux area low high → IsCentre (centre_of moment sum flux area) low high
unfolding centre_of
centred moment sum flux area low high k = go (int_eq flux (pos 0)) refl
  where
    go : (b : Bool) → int_eq flux (pos 0) ≡ b → IsCentre (cond b (floor_of (pos (1000 * sum)) (pos area)) (floor_of (pos 1000 *ℤ moment) flux)) low high
    go true u = without_flux sum area low high k.some k.sum_low k.sum_high
    go false u = with_flux moment flux low high (λ e. true≢false (sym (int_eq-from flux (pos 0) e) ∙ u)) k.not_negative k.moment_low k.moment_high

-- with the widest bounds
pub widest : (moment : ℤ) (sum : ℕ) (flux : ℤ) (area low high : ℕ) → IsMean moment sum flux area low high → IsMean moment sum flux area 0 65535
widest moment sum flux area low high k = record {
  some = k.some;
  few = k.few;
  ordered = omega arith;
  high_small = omega arith;
  sum_low = omega arith;
  sum_high = let a : high * area ≤ 65535 * area = mul-le high area 65535 area k.high_small (omega arith) in let b : sum ≤ high * area = k.sum_high in omega
      arith;
  not_negative = k.not_negative;
  small = k.small;
  moment_low = (let a : (flux *ℤ pos 0) ≤ℤ (flux *ℤ pos low) = times_le flux 0 low k.not_negative
      (omega arith) in let b : (flux *ℤ pos low) ≤ℤ moment = k.moment_low in omega (arith, ints));
  moment_high = (let a : (flux *ℤ pos high) ≤ℤ (flux *ℤ pos 65535) = times_le flux high 65535 k.not_negative
      k.high_small in let b : moment ≤ℤ (flux *ℤ pos high) = k.moment_high in omega (arith, ints));
}

-- ---- as the code computes them

pub weighted-read : (moment base : ℤ) (sum : ℕ) → IsMoment moment base sum → SFits w64 base
    → to_z w128 (of_z w128 (to_z w128 (of_z w128 moment) -ℤ to_z w128 (of_z w128 (to_z w128 (of_z w128 (to_z w64 (of_z w64 base))) *ℤ to_z w128 sum))))
    ≡ moment -ℤ base *ℤ pos sum
weighted-read moment base sum k f =
    rw (wide base f, to_z_pos w128 sum (omega (arith, k.sum_small)), to_z-of_z w128 moment moment_fits, to_z-of_z w128 (base *ℤ pos sum) product_fits)
    (to_z-of_z w128 (moment -ℤ base *ℤ pos sum) (fits w128 (2 ^ 84 + 2 ^ 84) (moment -ℤ base *ℤ pos sum)
    (up_to-minus (2 ^ 84) (2 ^ 84) moment (base *ℤ pos sum) k.moment_small product) (lit< tt)))
  where
    product : IsUpTo (2 ^ 84) (base *ℤ pos sum)
    product = up_to-times (2 ^ 37) (2 ^ 47) sum base k.base_small k.sum_small

    moment_fits : SFits w128 moment
    moment_fits = fits w128 (2 ^ 84) moment k.moment_small (lit< tt)

    product_fits : SFits w128 (base *ℤ pos sum)
    product_fits = fits w128 (2 ^ 84) (base *ℤ pos sum) product (lit< tt)

-- ---- spreads

-- the numbers met on the way are small
pub record SpreadFits (area products first second : ℕ) : Type 0 where
  pub whole : area * products < 2 ^ 127
  pub apart : first * second < 2 ^ 127
  pub square : area * area < 2 ^ 63
  pub some_square : 0 < area * area
  pub above : IsUpTo (2 ^ 32 * (area * area)) (pos (area * products) -ℤ pos (first * second))
  pub thousand : IsUpTo (1000 * 2 ^ 32 * (area * area)) (pos 1000 *ℤ (pos (area * products) -ℤ pos (first * second)))
  pub spread : IsUpTo (1000 * 2 ^ 32) (spread_of area products first second)

times_thousand : (m : ℕ) (z : ℤ) → IsUpTo m z → IsUpTo (1000 * m) (pos 1000 *ℤ z)
times_thousand m z h =
    subst (λ (k : ℕ). IsUpTo k (pos 1000 *ℤ z)) (mul_comm m 1000)
    (subst (IsUpTo (m * 1000)) (*ℤ_comm z (pos 1000)) (up_to-times m 1000 1000 z h (omega arith)))

difference_up_to : (a b m : ℕ) → a ≤ m → b ≤ m → IsUpTo m (pos a -ℤ pos b)
difference_up_to a b m h k = record { low = omega (arith, ints); high = omega (arith, ints) }

pub spread_fits : (area products first second : ℕ) → IsSpread area products first second → SpreadFits area products first second
unfolding spread_of
spread_fits area products first second k = record {
  whole = omega (arith, whole_small, square_small);
  apart = omega (arith, apart_small, square_small);
  square = omega (arith, square_small);
  some_square = some_square;
  above = above;
  thousand = thousand;
  spread = floor_up_to (pos 1000 *ℤ (pos (area * products) -ℤ pos (first * second))) (area * area) (1000 * 2 ^ 32) some_square thousand;
}
  where
    square_small : area * area ≤ 2 ^ 62
    square_small = mul-le area area (2 ^ 31) (2 ^ 31) (omega (arith, k.few)) (omega (arith, k.few))

    some_square : 0 < area * area
    some_square = let l : 1 * 1 ≤ area * area = mul-le 1 1 area area k.some k.some in omega arith

    whole_small : area * products ≤ 2 ^ 32 * (area * area)
    whole_small =
        let l : area * products ≤ area * (2 ^ 32 * area) = mul-le-mul_left area k.products_small in
        let e : area * (2 ^ 32 * area) ≡ 2 ^ 32 * (area * area) = omega arith in
        omega arith

    apart_small : first * second ≤ 2 ^ 32 * (area * area)
    apart_small =
        let l : first * second ≤ 2 ^ 16 * area * (2 ^ 16 * area) = mul-le first second (2 ^ 16 * area) (2 ^ 16 * area) k.first_small k.second_small in
        let e : 2 ^ 16 * area * (2 ^ 16 * area) ≡ 2 ^ 32 * (area * area) = omega arith in
        omega arith

    above : IsUpTo (2 ^ 32 * (area * area)) (pos (area * products) -ℤ pos (first * second))
    above = difference_up_to (area * products) (first * second) (2 ^ 32 * (area * area)) whole_small apart_small

    thousand : IsUpTo (1000 * 2 ^ 32 * (area * area)) (pos 1000 *ℤ (pos (area * products) -ℤ pos (first * second)))
    thousand =
        subst (λ (m : ℕ). IsUpTo m (pos 1000 *ℤ (pos (area * products) -ℤ pos (first * second))))
        (let e : 1000 * (2 ^ 32 * (area * area)) ≡ 1000 * 2 ^ 32 * (area * area) = omega arith in e)
        (times_thousand (2 ^ 32 * (area * area)) (pos (area * products) -ℤ pos (first * second)) above)

square_bound : (area : ℕ) → area ≤ 2147483647 → 2 ^ 32 * (area * area) ≤ 2 ^ 94
square_bound area h = let l : area * area ≤ 2 ^ 62 = mul-le area area (2 ^ 31) (2 ^ 31) (omega (arith, h)) (omega (arith, h)) in omega arith

thousand_bound : (area : ℕ) → area ≤ 2147483647 → 1000 * 2 ^ 32 * (area * area) ≤ 2 ^ 104
thousand_bound area h = let l : area * area ≤ 2 ^ 62 = mul-le area area (2 ^ 31) (2 ^ 31) (omega (arith, h)) (omega (arith, h)) in omega arith

narrow : (area products first second : ℕ) → IsSpread area products first second → SFits w128 (pos (area * products) -ℤ pos (first * second))
narrow area products first second k =
    fits w128 (2 ^ 94) (pos (area * products) -ℤ pos (first * second))
    (up_to_more (2 ^ 32 * (area * area)) (2 ^ 94) (pos (area * products) -ℤ pos (first * second)) (spread_fits area products first second k).above
    (square_bound area k.few)) (lit< tt)

-- a thousand times the difference fits
pub thousand_fits : (area products first second : ℕ) → IsSpread area products first second
    → SFits w128 (pos 1000 *ℤ (pos (area * products) -ℤ pos (first * second)))
thousand_fits area products first second k =
    fits w128 (2 ^ 104) (pos 1000 *ℤ (pos (area * products) -ℤ pos (first * second)))
    (up_to_more (1000 * 2 ^ 32 * (area * area)) (2 ^ 104) (pos 1000 *ℤ (pos (area * products) -ℤ pos (first * second)))
    (spread_fits area products first second k).thousand (thousand_bound area k.few)) (lit< tt)

operands-read : (area products first second : ℕ) → IsSpread area products first second
    → to_z w128 (area * products) -ℤ to_z w128 (first * second) ≡ pos (area * products) -ℤ pos (first * second)
operands-read area products first second k =
    let s : SpreadFits area products first second = spread_fits area products first second k in
    ap (λ (z : ℤ). z -ℤ to_z w128 (first * second)) (to_z_pos w128 (area * products) s.whole)
    ∙ ap (λ (z : ℤ). pos (area * products) -ℤ z) (to_z_pos w128 (first * second) s.apart)

pub difference_fits : (area products first second : ℕ) → IsSpread area products first second
    → SFits w128 (to_z w128 (area * products) -ℤ to_z w128 (first * second))
difference_fits area products first second k =
    subst (λ (z : ℤ). SFits w128 z) (sym (operands-read area products first second k)) (narrow area products first second k)

-- the difference as it is computed
pub difference-read : (area products first second : ℕ) → IsSpread area products first second
    → to_z w128 (of_z w128 (to_z w128 (area * products) -ℤ to_z w128 (first * second))) ≡ pos (area * products) -ℤ pos (first * second)
difference-read area products first second k =
    ap (λ (z : ℤ). to_z w128 (of_z w128 z)) (operands-read area products first second k)
    ∙ to_z-of_z w128 (pos (area * products) -ℤ pos (first * second)) (narrow area products first second k)

pub spread-result : (area products first second : ℕ) (got : ℤ) → IsSpread area products first second
    → got ≡ int_div_euclid (to_z w128 (of_z w128 (pos 1000 *ℤ to_z w128 (of_z w128 (to_z w128 (area * products) -ℤ to_z w128 (first * second))))))
    (to_z w128 (area * area))
    → got ≡ spread_of area products first second
unfolding spread_of
spread-result area products first second got k e =
    let s : SpreadFits area products first second = spread_fits area products first second k in
    e ∙ ap (λ (z : ℤ). int_div_euclid (to_z w128 (of_z w128 (pos 1000 *ℤ z))) (to_z w128 (area * area))) (difference-read area products first second k)
    ∙ ap (λ (z : ℤ). int_div_euclid z (to_z w128 (area * area)))
    (to_z-of_z w128 (pos 1000 *ℤ (pos (area * products) -ℤ pos (first * second))) (thousand_fits area products first second k))
    ∙ ap (int_div_euclid (pos 1000 *ℤ (pos (area * products) -ℤ pos (first * second)))) (to_z_pos w128 (area * area) (omega (arith, s.square)))

pub spread-fits : (area products first second : ℕ) (got : ℤ) → IsSpread area products first second → got ≡ spread_of area products first second → SFits w64 got
spread-fits area products first second got k e =
    subst (λ (z : ℤ). SFits w64 z) (sym e) (fits w64 (1000 * 2 ^ 32) (spread_of area products first second) (spread_fits area products first second k).spread
    (lit< tt))

-- ---- the centre as it is computed

centre_up_to : (z : ℤ) (low high : ℕ) → IsCentre z low high → high ≤ 65535 → IsUpTo 65535000 z
centre_up_to z low high k h =
    let a : pos 1000 *ℤ pos low ≡ pos (1000 * low) = pos-*ℤ-pos 1000 low in
    let b : pos 1000 *ℤ pos high ≡ pos (1000 * high) = pos-*ℤ-pos 1000 high in
    record { low = omega (arith, ints, k.above); high = omega (arith, ints, k.below) }

pub centre-small : (moment : ℤ) (sum : ℕ) (flux : ℤ) (area low high : ℕ) → IsMean moment sum flux area low high
    → IsUpTo 65535000 (centre_of moment sum flux area)
centre-small moment sum flux area low high k = centre_up_to (centre_of moment sum flux area) low high (centred moment sum flux area low high k) k.high_small

zero_flux : (flux : ℤ) → pos 0 ≤ℤ flux → of_z w64 flux ≡ 0 → flux ≡ pos 0
zero_flux (pos n) h e = ap pos e
zero_flux (negsuc n) h e = absurd (omega (arith, ints))

pub centre-without : (moment : ℤ) (sum : ℕ) (flux : ℤ) (area : ℕ) → IsMean moment sum flux area 0 65535 → of_z w64 flux ≡ 0
    → to_z w64 (1000 * sum / area) ≡ centre_of moment sum flux area
unfolding centre_of
centre-without moment sum flux area k e =
    rw (int_eq-from flux (pos 0) (zero_flux flux k.not_negative e))
    (to_z_pos w64 (1000 * sum / area) (let t : 1000 * sum / area ≤ 1000 * 65535 = (thousand_between sum area 0 65535 k.some k.sum_low k.sum_high).1 in omega
    arith))

moment_up_to : (moment flux : ℤ) → pos 0 ≤ℤ flux → flux ≤ℤ pos (2 ^ 62) → (flux *ℤ pos 0) ≤ℤ moment → moment ≤ℤ (flux *ℤ pos 65535) → IsUpTo (2 ^ 78) moment
moment_up_to moment (pos f) h s l u =
    let a : pos f *ℤ pos 0 ≡ pos (f * 0) = pos-*ℤ-pos f 0 in
    let b : pos f *ℤ pos 65535 ≡ pos (f * 65535) = pos-*ℤ-pos f 65535 in
    record { low = omega (arith, ints); high = omega (arith, ints) }
moment_up_to moment (negsuc f) h s l u = absurd (omega (arith, ints))

pub thousand_moments_fit : (moment : ℤ) (sum : ℕ) (flux : ℤ) (area : ℕ) → IsMean moment sum flux area 0 65535 → SFits w128 (pos 1000 *ℤ moment)
thousand_moments_fit moment sum flux area k =
    fits w128 (1000 * 2 ^ 78) (pos 1000 *ℤ moment)
    (times_thousand (2 ^ 78) moment (moment_up_to moment flux k.not_negative k.small k.moment_low k.moment_high)) (lit< tt)

pub centre-with : (moment : ℤ) (sum : ℕ) (flux : ℤ) (area : ℕ) (got : ℤ) → IsMean moment sum flux area 0 65535 → (of_z w64 flux ≡ 0 → ⊥) → SFits w64 flux
    → SFits w128 moment
    → got ≡ int_div_euclid (to_z w128 (of_z w128 (pos 1000 *ℤ to_z w128 (of_z w128 moment)))) (to_z w128 (of_z w128 (to_z w64 (of_z w64 flux))))
    → got ≡ centre_of moment sum flux area
unfolding centre_of
centre-with moment sum flux area got k some f m e =
    e ∙ ap (λ (z : ℤ). int_div_euclid (to_z w128 (of_z w128 (pos 1000 *ℤ z))) (to_z w128 (of_z w128 (to_z w64 (of_z w64 flux))))) (to_z-of_z w128 moment m)
    ∙ ap (λ (z : ℤ). int_div_euclid z (to_z w128 (of_z w128 (to_z w64 (of_z w64 flux)))))
    (to_z-of_z w128 (pos 1000 *ℤ moment) (thousand_moments_fit moment sum flux area k))
    ∙ ap (int_div_euclid (pos 1000 *ℤ moment)) (wide flux f)
    ∙ ap (λ (b : Bool). cond b (floor_of (pos (1000 * sum)) (pos area)) (floor_of (pos 1000 *ℤ moment) flux)) (sym other)
  where
    other : int_eq flux (pos 0) ≡ false
    other = false_from_ne_true (int_eq flux (pos 0)) (λ u. some (ap (of_z w64) (int_eq-true flux (pos 0) u)))

pub centre_fits : (moment : ℤ) (sum : ℕ) (flux : ℤ) (area : ℕ) (got : ℤ) → IsMean moment sum flux area 0 65535 → got ≡ centre_of moment sum flux area
    → SFits w64 got
centre_fits moment sum flux area got k e =
    subst (λ (z : ℤ). SFits w64 z) (sym e)
    (fits w64 65535000 (centre_of moment sum flux area) (centre-small moment sum flux area 0 65535 k) (lit< tt))

pub centre-cast : (moment : ℤ) (sum : ℕ) (flux : ℤ) (area : ℕ) (got : ℤ) → IsMean moment sum flux area 0 65535 → got ≡ centre_of moment sum flux area
    → SFits w64 (to_z w128 (of_z w128 got))
centre-cast moment sum flux area got k e =
    let b : SFits w64 got = centre_fits moment sum flux area got k e in
    subst (λ (z : ℤ). SFits w64 z) (sym (to_z-of_z w128 got (record { sfits = omega (arith, b.sfits) }))) b

pub centre-read : (moment : ℤ) (sum : ℕ) (flux : ℤ) (area : ℕ) (got : ℤ) → IsMean moment sum flux area 0 65535 → got ≡ centre_of moment sum flux area
    → to_z w64 (of_z w64 (to_z w128 (of_z w128 got))) ≡ centre_of moment sum flux area
centre-read moment sum flux area got k e =
    let b : SFits w64 got = centre_fits moment sum flux area got k e in
    ap (λ (z : ℤ). to_z w64 (of_z w64 z)) (to_z-of_z w128 got (record { sfits = omega (arith, b.sfits) })) ∙ to_z-of_z w64 got b ∙ e

pub spread-read : (area products first second : ℕ) (got : ℤ) → IsSpread area products first second → got ≡ spread_of area products first second
    → to_z w64 (of_z w64 (to_z w128 (of_z w128 got))) ≡ spread_of area products first second
spread-read area products first second got k e =
    let b : SFits w64 got = spread-fits area products first second got k e in
    ap (λ (z : ℤ). to_z w64 (of_z w64 z)) (to_z-of_z w128 got (record { sfits = omega (arith, b.sfits) })) ∙ to_z-of_z w64 got b ∙ e

pub spread-cast : (area products first second : ℕ) (got : ℤ) → IsSpread area products first second → got ≡ spread_of area products first second
    → SFits w64 (to_z w128 (of_z w128 got))
spread-cast area products first second got k e =
    let b : SFits w64 got = spread-fits area products first second got k e in
    subst (λ (z : ℤ). SFits w64 z) (sym (to_z-of_z w128 got (record { sfits = omega (arith, b.sfits) }))) b
