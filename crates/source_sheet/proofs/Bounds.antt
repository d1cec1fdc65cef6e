-- The values of a plane may stand on a smaller one.
use Rattle.std.proofs.Common.{◌≡◌, ℕ, ◌^◌, ◌<◌, ◌≤◌, Bool, true, false, cond, ap, arith, ◌⊎◌, inl, inr}
use Rattle.std.specs.Prelude.{nat_le}
use Rattle.std.proofs.lemmas.Bool.{cases_lt, false_from_ne_true, leb-true}
use Rattle.comp_tree.specs.Limits.{value_bound}
use Rattle.comp_tree.proofs.Exported.{bound_most, usual_bound}

least_bound : (count : ℕ) → 2 ^ 30 ≤ value_bound count
unfolding value_bound
least_bound count = go (nat_le count (2 ^ 24))
  where
    go : (b : Bool) → 2 ^ 30 ≤ cond b (2 ^ 37) (2 ^ 30)
    go true = omega arith
    go false = omega arith

large_bound : (count : ℕ) → 2 ^ 24 < count → value_bound count ≡ 2 ^ 30
unfolding value_bound
large_bound count l =
    ap (λ (b : Bool). cond b (2 ^ 37) (2 ^ 30))
    (false_from_ne_true (nat_le count (2 ^ 24)) (λ k. let m : count ≤ 2 ^ 24 = leb-true count (2 ^ 24) k in absurd (omega arith)))

-- fewer pixels may have no less
pub bound_falls : (a b : ℕ) → a ≤ b → value_bound b ≤ value_bound a
bound_falls a b l = go (cases_lt (2 ^ 24) a)
  where
    go : (2 ^ 24 < a) ⊎ (a ≤ 2 ^ 24) → value_bound b ≤ value_bound a
    go (inl k) = let e : value_bound b ≡ 2 ^ 30 = large_bound b (omega arith) in let m : 2 ^ 30 ≤ value_bound a = least_bound a in omega arith
    go (inr k) = let e : value_bound a ≡ 2 ^ 37 = usual_bound a k in let m : value_bound b ≤ 2 ^ 37 = bound_most b in omega arith
