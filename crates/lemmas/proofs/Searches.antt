-- The first number of a range that passes a test.
use Rattle.std.proofs.Common.{◌≡◌, ◌∙◌, ℕ, zero, suc, ◌+◌, ◌<◌, ◌≤◌, inl, inr, Bool, true, false, cond, refl, sym, ap, arith}
use Rattle.std.specs.Prelude.{Option, Some, None, find}
use Rattle.std.specs.List.{range_with_len}
use Rattle.std.specs.Option.{option_or}
use Rattle.std.proofs.lemmas.Bool.{cases_lt}

pub found_here : (test : ℕ → Bool) (a k : ℕ) → a ≤ k → test a ≡ true → ((j : ℕ) → a ≤ j → j < k → test j ≡ false) → a ≡ k
found_here test a k low is none =
    elim (cases_lt a k) [ inl less ↦ let fails : test a ≡ false = none a (omega arith) less in absurd (cc) | inr more ↦ omega arith ]

pub found_later : (test : ℕ → Bool) (a k : ℕ) → a ≤ k → test a ≡ false → test k ≡ true → a + 1 ≤ k
found_later test a k low fails is =
    elim (cases_lt a k) [
      | inl less ↦ omega arith
      | inr more ↦ let same : a ≡ k = omega arith in let other : test k ≡ false = sym (ap test same) ∙ fails in absurd (cc)
    ]

pub find_first : (test : ℕ → Bool) (a n k : ℕ) → a ≤ k → k < a + n → test k ≡ true → ((j : ℕ) → a ≤ j → j < k → test j ≡ false)
    → find test (range_with_len a n) ≡ Some k
find_first test a zero k low high is none = absurd (omega arith)
find_first test a (suc n) k low high is none =
    by (test a) refl (λ (next : a + 1 ≤ k). find_first test (a + 1) n k next (omega arith) is (λ j l h. none j (omega arith) h))
  where
    by : (b : Bool) → test a ≡ b → (a + 1 ≤ k → find test (range_with_len (a + 1) n) ≡ Some k) → cond b (Some a) (find test (range_with_len (a + 1) n)) ≡ Some k
    by true here rest = ap Some (found_here test a k low here none)
    by false here rest = rest (found_later test a k low here is)

pub find_nothing : (test : ℕ → Bool) (a n : ℕ) → ((j : ℕ) → a ≤ j → j < a + n → test j ≡ false) → find test (range_with_len a n) ≡ None
find_nothing test a zero none = refl
find_nothing test a (suc n) none =
    let here : test a ≡ false = none a (omega arith) (omega arith) in
    rw here (find_nothing test (a + 1) n (λ j l h. none j (omega arith) (omega arith)))

pub find_in_range : (test : ℕ → Bool) (a n k : ℕ) → find test (range_with_len a n) ≡ Some k → (a ≤ k) × (k < a + n)
find_in_range test a zero k is = absurd (cc)
find_in_range test a (suc n) k is = by (test a) (λ (later : find test (range_with_len (a + 1) n) ≡ Some k). find_in_range test (a + 1) n k later) is
  where
    by : (b : Bool) → (find test (range_with_len (a + 1) n) ≡ Some k → (a + 1 ≤ k) × (k < a + 1 + n))
        → cond b (Some a) (find test (range_with_len (a + 1) n)) ≡ Some k
        → (a ≤ k) × (k < a + suc n)
    by true rest is = let same : a ≡ k = cc in (omega arith, omega arith)
    by false rest is = let later = rest is in (omega (arith, later.0), omega (arith, later.1))

unfoldable pub last_tried : (ℕ → Bool) → ℕ → Option ℕ
last_tried test k = cond (test k) (Some k) None

pub find_more : (test : ℕ → Bool) (a n : ℕ) → find test (range_with_len a (suc n)) ≡ option_or (find test (range_with_len a n)) (last_tried test (a + n))
unfolding last_tried
find_more test a zero = let same : a + 0 ≡ a = omega arith in rw same refl
find_more test a (suc n) = by (test a) (find_more test (a + 1) n)
  where
    by : (b : Bool) → find test (range_with_len (a + 1) (suc n)) ≡ option_or (find test (range_with_len (a + 1) n)) (last_tried test (a + 1 + n))
        → cond b (Some a) (find test (range_with_len (a + 1) (suc n)))
        ≡ option_or (cond b (Some a) (find test (range_with_len (a + 1) n))) (last_tried test (a + suc n))
    by true rest = refl
    by false rest = let same : a + 1 + n ≡ a + suc n = omega arith in rest ∙ ap (λ k. option_or (find test (range_with_len (a + 1) n)) (last_tried test k)) same
