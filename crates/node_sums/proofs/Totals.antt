-- Sums of whole numbers over pixels.
use Rattle.std.proofs.Common.{◌≡◌, ℕ, suc, Bool, true, false, List, [], ◌∷◌, length, refl, subst, arith, ◌⊎◌, inl, inr}
use Rattle.std.specs.Prelude.{ℤ, pos, ◌+ℤ◌, ◌-ℤ◌, ◌*ℤ◌, ◌≤ℤ◌, filter}
use Rattle.std.proofs.lemmas.Int.{ints}
use Rattle.std.proofs.Math.IntN.{*ℤ-zero}
use Rattle.lemmas.proofs.Exported.{IsAmong, times_suc}
use Rattle.node_sums.specs.Sums.{total}

-- less b each time is less b times their number
pub total-less : (f : ℕ → ℤ) (b : ℤ) (ps : List ℕ) → total (λ p. f p -ℤ b) ps ≡ total f ps -ℤ b *ℤ pos (length ps)
total-less f b [] = let e : b *ℤ pos 0 ≡ pos 0 = *ℤ-zero b in omega (arith, ints)
total-less f b (p ∷ ps) =
    let e : total (λ q. f q -ℤ b) ps ≡ total f ps -ℤ b *ℤ pos (length ps) = total-less f b ps in
    let k : b *ℤ pos (suc (length ps)) ≡ b +ℤ b *ℤ pos (length ps) = times_suc b (length ps) in
    omega (arith, ints)

pub total_not_negative : (f : ℕ → ℤ) (ps : List ℕ) → ((p : ℕ) → IsAmong p ps → pos 0 ≤ℤ f p) → pos 0 ≤ℤ total f ps
total_not_negative f [] h = omega (arith, ints)
total_not_negative f (p ∷ ps) h =
    let a : pos 0 ≤ℤ f p = h p (inl refl) in
    let b : pos 0 ≤ℤ total f ps = total_not_negative f ps (λ q k. h q (inr k)) in
    omega (arith, ints)

zero_left : (a b : ℤ) → pos 0 ≤ℤ a → pos 0 ≤ℤ b → a +ℤ b ≡ pos 0 → a ≡ pos 0
zero_left a b h k e = omega (arith, ints)

zero_right : (a b : ℤ) → pos 0 ≤ℤ a → pos 0 ≤ℤ b → a +ℤ b ≡ pos 0 → b ≡ pos 0
zero_right a b h k e = omega (arith, ints)

-- a sum of numbers that are not negative is 0 only where each is
pub each_zero : (f : ℕ → ℤ) (ps : List ℕ) → ((p : ℕ) → IsAmong p ps → pos 0 ≤ℤ f p) → total f ps ≡ pos 0 → (p : ℕ) → IsAmong p ps → f p ≡ pos 0
each_zero f [] h e p k = absurd k
each_zero f (q ∷ ps) h e p k = go k (λ z m. each_zero f ps (λ s l. h s (inr l)) z p m)
  where
    first : pos 0 ≤ℤ f q
    first = h q (inl refl)

    rest : pos 0 ≤ℤ total f ps
    rest = total_not_negative f ps (λ s l. h s (inr l))

    sum : f q +ℤ total f ps ≡ pos 0
    sum = e

    go : (q ≡ p) ⊎ IsAmong p ps → (total f ps ≡ pos 0 → IsAmong p ps → f p ≡ pos 0) → f p ≡ pos 0
    go (inl same) ih = let z : f q ≡ pos 0 = zero_left (f q) (total f ps) first rest sum in subst (λ (s : ℕ). f s ≡ pos 0) same z
    go (inr m) ih = ih (zero_right (f q) (total f ps) first rest sum) m

pub total_zero : (f : ℕ → ℤ) (ps : List ℕ) → ((p : ℕ) → IsAmong p ps → f p ≡ pos 0) → total f ps ≡ pos 0
total_zero f [] h = refl
total_zero f (p ∷ ps) h =
    let a : f p ≡ pos 0 = h p (inl refl) in
    let b : total f ps ≡ pos 0 = total_zero f ps (λ q k. h q (inr k)) in
    omega (arith, ints)

-- more pixels with larger numbers, none negative, have a larger sum
pub total_grows : (f g : ℕ → ℤ) (some all : ℕ → Bool) (ps : List ℕ) → ((p : ℕ) → some p ≡ true → (all p ≡ true) × (f p ≤ℤ g p))
    → ((p : ℕ) → all p ≡ true → pos 0 ≤ℤ g p)
    → total f (filter some ps) ≤ℤ total g (filter all ps)
total_grows f g some all [] h k = omega (arith, ints)
total_grows f g some all (p ∷ ps) h k = go (some p) (all p) refl refl (total_grows f g some all ps h k)
  where
    go : (s a : Bool) → some p ≡ s → all p ≡ a → total f (filter some ps) ≤ℤ total g (filter all ps)
        → total f (filter some (p ∷ ps)) ≤ℤ total g (filter all (p ∷ ps))
    go true a u v ih =
        let w : all p ≡ true = (h p u).0 in
        let l : f p ≤ℤ g p = (h p u).1 in
        rw (u, w) (omega (arith, ints))
    go false true u v ih = let l : pos 0 ≤ℤ g p = k p v in rw (u, v) (omega (arith, ints))
    go false false u v ih = rw (u, v) ih
