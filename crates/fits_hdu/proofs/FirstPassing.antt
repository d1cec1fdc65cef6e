-- The least number that passes a test.
use Rattle.std.proofs.Common.{◌≡◌, ℕ, zero, suc, ◌+◌, ◌<◌, ◌≤◌, inl, inr, Bool, true, false, cond, refl, ◌∙◌, arith}
use Rattle.std.proofs.lemmas.Bool.{cases_lt}
use Rattle.lemmas.proofs.Exported.{found_here, found_later}
use Rattle.fits_hdu.specs.Headers.{first_passing}

-- it is the first one that passes
pub first_passing_is : (test : ℕ → Bool) (n first k : ℕ) → first ≤ k → k < first + n → test k ≡ true → ((j : ℕ) → first ≤ j → j < k → test j ≡ false)
    → first_passing test first n ≡ k
unfolding first_passing
first_passing_is test zero first k low high passes none = absurd (omega arith)
first_passing_is test (suc n) first k low high passes none =
    by (test first) refl (λ (next : first + 1 ≤ k). first_passing_is test n (first + 1) k next (omega arith) passes (λ j l h. none j (omega arith) h))
  where
    by : (b : Bool) → test first ≡ b → (first + 1 ≤ k → first_passing test (first + 1) n ≡ k) → cond b first (first_passing test (first + 1) n) ≡ k
    by true is rest = found_here test first k low is none
    by false is rest = rest (found_later test first k low is passes)

-- where none passes it is the number after them
pub first_passing_past : (test : ℕ → Bool) (n first : ℕ) → ((j : ℕ) → first ≤ j → j < first + n → test j ≡ false) → first_passing test first n ≡ first + n
unfolding first_passing
first_passing_past test zero first none = omega arith
first_passing_past test (suc n) first none =
    let here : test first ≡ false = none first (omega arith) (omega arith) in
    let rest : first_passing test (first + 1) n ≡ first + 1 + n = first_passing_past test n (first + 1) (λ j l h. none j (omega arith) (omega arith)) in
    rw here (rest ∙ omega arith)

-- it is no less than a number below which none passes
pub first_passing_from : (test : ℕ → Bool) (n first k : ℕ) → k ≤ first + n → ((j : ℕ) → first ≤ j → j < k → test j ≡ false) → k ≤ first_passing test first n
unfolding first_passing
first_passing_from test zero first k high none = omega arith
first_passing_from test (suc n) first k high none =
    by (test first) refl (first_passing_from test n (first + 1) k (omega arith) (λ j l h. none j (omega arith) h))
  where
    here : test first ≡ true → k ≤ first
    here is = elim (cases_lt first k) [ inl less ↦ let fails : test first ≡ false = none first (omega arith) less in absurd (cc) | inr more ↦ more ]

    by : (b : Bool) → test first ≡ b → k ≤ first_passing test (first + 1) n → k ≤ cond b first (first_passing test (first + 1) n)
    by true is rest = here is
    by false is rest = rest
