-- A worker's loop ends.
use Rattle.std.proofs.Common.{◌≡◌, ℕ, ◌+◌, ◌-◌, ◌<◌, max, List, [], ◌∷◌, ◌++◌, ap, ◌∙◌, arith}
use Rattle.strip_crew.specs.Counting.{after_give_back}
use Rattle.strip_crew.specs.Claims.{view, Seated, above_all, TakesStrip}

top_on : (xs : List ℕ) (i : ℕ) → above_all (xs ++ i ∷ []) ≡ max (above_all xs) (i + 1)
top_on [] i = omega arith
top_on (x ∷ xs) i = omega (arith, top_on xs i)

pub shrinks : (n i : ℕ) (m m₁ m₂ m₃ : Seated) → i < n → TakesStrip m i m₁ → m₂.0 ≡ m₁.0 → m₃ ≡ (view (after_give_back m₂.0.claim) m₂.0.of, [])
    → n - above_all m₃.0.claim.claimed < n - above_all m.0.claim.claimed
shrinks n i m m₁ m₂ m₃ near t same given =
    let list : m₃.0.claim.claimed ≡ m.0.claim.claimed ++ i ∷ [] =
    ap (λ (x : Seated). x.0.claim.claimed) given ∙ (ap (λ v. v.claim.claimed) same ∙ ap (λ (x : Seated). x.0.claim.claimed) t.1) in
    omega (arith, ap above_all list, top_on m.0.claim.claimed i, t.4)
