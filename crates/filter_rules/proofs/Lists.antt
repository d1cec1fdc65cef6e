-- Sums over the members of a list that pass a test.
use Rattle.std.proofs.Common.{◌≡◌, ℕ, ◌+◌, ◌<◌, ◌≤◌, zero, suc, Bool, true, false, List, [], ◌∷◌, refl, ap, arith, inl, inr}
use Rattle.std.specs.Prelude.{ℤ, pos, ◌+ℤ◌, filter, ◌==◌, ◌≢◌}
use Rattle.std.specs.List.{range_with_len}
use Rattle.std.proofs.lemmas.Int.{ints}
use Rattle.std.proofs.lemmas.Bool.{eqb-true, eqb-false, ne_eqb}
use Rattle.lemmas.proofs.Exported.{IsAmong}
use Rattle.node_sums.specs.Sums.{total}

-- the sum over those that pass `all` is that over those that pass `some` and that over the others
pub total_split : (f : ℕ → ℤ) (all some others : ℕ → Bool) (xs : List ℕ)
    → ((x : ℕ) → IsAmong x xs → some x ≡ true → (all x ≡ true) × (others x ≡ false))
    → ((x : ℕ) → IsAmong x xs → some x ≡ false → all x ≡ others x)
    → total f (filter all xs) ≡ total f (filter some xs) +ℤ total f (filter others xs)
total_split f all some others [] h k = omega (arith, ints)
total_split f all some others (y ∷ xs) h k =
    go (some y) (others y) refl refl (total_split f all some others xs (λ x m. h x (inr m)) (λ x m. k x (inr m)))
  where
    go : (s o : Bool) → some y ≡ s → others y ≡ o → total f (filter all xs) ≡ total f (filter some xs) +ℤ total f (filter others xs)
        → total f (filter all (y ∷ xs)) ≡ total f (filter some (y ∷ xs)) +ℤ total f (filter others (y ∷ xs))
    go true o u v ih = rw ((h y (inl refl) u).0, u, (h y (inl refl) u).1) (omega (arith, ints))
    go false true u v ih = rw (k y (inl refl) u, u, v) (omega (arith, ints))
    go false false u v ih = rw (k y (inl refl) u, u, v) ih

-- the sum over no number that passes
pub total_none : (f : ℕ → ℤ) (test : ℕ → Bool) (xs : List ℕ) → ((x : ℕ) → IsAmong x xs → test x ≡ false) → total f (filter test xs) ≡ pos 0
total_none f test [] h = refl
total_none f test (y ∷ xs) h = rw (h y (inl refl)) (total_none f test xs (λ x m. h x (inr m)))

-- the sum over one number of a range
pub total_one : (f : ℕ → ℤ) (a n k : ℕ) → a ≤ k → k < a + n → total f (filter (λ m. m == k) (range_with_len a n)) ≡ f k
total_one f a zero k low high = absurd (omega arith)
total_one f a (suc n) k low high = go (a == k) refl (total_one f (a + 1) n k)
  where
    later : (b m : ℕ) → k < b → total f (filter (λ x. x == k) (range_with_len b m)) ≡ pos 0
    later b zero l = refl
    later b (suc m) l = rw (ne_eqb b k (λ e. absurd (omega arith))) (later (b + 1) m (omega arith))

    go : (t : Bool) → a == k ≡ t → (a + 1 ≤ k → k < a + 1 + n → total f (filter (λ m. m == k) (range_with_len (a + 1) n)) ≡ f k)
        → total f (filter (λ m. m == k) (range_with_len a (suc n))) ≡ f k
    go true u ih =
        let e : a ≡ k = eqb-true a k u in
        let z : total f (filter (λ m. m == k) (range_with_len (a + 1) n)) ≡ pos 0 = later (a + 1) n (omega arith) in
        let g : f a ≡ f k = ap f e in
        rw u (omega (arith, ints))
    go false u ih = let ne : a ≢ k = eqb-false a k u in rw u (ih (omega arith) (omega arith))
