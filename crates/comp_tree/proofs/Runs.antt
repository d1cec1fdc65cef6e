-- Runs of pixels: those looked at so far, and planes into which one was put.
use Rattle.std.proofs.Common.{◌≡◌, ◌∙◌, ℕ, ◌+◌, ◌-◌, ◌<◌, ◌≤◌, Bool, true, false, ◌||◌, ◌⊎◌, inl, inr, List, [], ◌∷◌, length, map, refl, sym, ap, subst, arith, max}
use Rattle.std.specs.Prelude.{ℤ, Option, Some, None, IfSome}
use Rattle.std.specs.List.{list_any, range_with_len}
use Rattle.std.proofs.lemmas.Bool.{cases_lt}
use Rattle.std.proofs.lemmas.List.Folds.{list_any-append}
use Rattle.std.proofs.lemmas.List.FromFn.{map-range_with_len_more}
use Rattle.std.proofs.lemmas.Option.{get_or_from_slice_get, slice_get_within}
use Rattle.comp_tree.specs.Limits.{IsWithin}
use Rattle.comp_tree.specs.Raster.{at_least, value_at, HasValuesWithin}
use Rattle.comp_tree.proofs.Values.{in_range-value, within_more, some_within}

-- ---- a test of each

or_none : (b : Bool) → (b || false) ≡ b
or_none true = refl
or_none false = refl

any_mapped : (test : ℕ → Bool) (ps : List ℕ) → list_any (λ b. b) (map test ps) ≡ list_any test ps
any_mapped test [] = refl
any_mapped test (p ∷ ps) = ap (λ b. test p || b) (any_mapped test ps)

-- one more of the numbers that are tried
pub any_more : (test : ℕ → Bool) (first n : ℕ)
    → list_any test (range_with_len first (n + 1)) ≡ (list_any test (range_with_len first n) || test (first + n))
any_more test first n =
    sym (any_mapped test (range_with_len first (n + 1)))
    ∙ ap (list_any (λ b. b)) (map-range_with_len_more test first n (first + n) refl)
    ∙ list_any-append (λ b. b) (map test (range_with_len first n)) (test (first + n) ∷ [])
    ∙ ap (λ b. b || (test (first + n) || false)) (any_mapped test (range_with_len first n))
    ∙ ap (λ b. list_any test (range_with_len first n) || b) (or_none (test (first + n)))

-- one more pixel that is compared, as it is read
pub any_step : (h : ℤ) (values : List (Option ℤ)) (first n : ℕ) (any here : Bool) (pixel : Option ℤ) → first + n < length values
    → any ≡ list_any (λ p. at_least h (value_at values p)) (range_with_len first n) → pixel ≡ value_at values (first + n)
    → here ≡ at_least h pixel → (any || here) ≡ list_any (λ p. at_least h (value_at values p)) (range_with_len first (n + 1))
any_step h values first n any here pixel lt before read test =
    ap (λ b. b || here) before
    ∙ ap (λ b. list_any (λ p. at_least h (value_at values p)) (range_with_len first n) || b) (test ∙ ap (at_least h) read)
    ∙ sym (any_more (λ p. at_least h (value_at values p)) first n)

-- ---- how far from 0

-- the first k values are from -most to most
abbrev pub IsFirstWithin : ℕ → ℕ → List (Option ℤ) → Type 0
IsFirstWithin k most values = (p : ℕ) (v : ℤ) → p < k → value_at values p ≡ Some v → IsWithin most v

some_is : (most : ℕ) (o : Option ℤ) (v : ℤ) → IfSome o (λ w. IsWithin most w) → o ≡ Some v → IsWithin most v
some_is most None v h e = let wrong : (let o : Option ℤ = None in o) ≡ Some v = e in absurd cc
some_is most (Some w) v h e = let f : w ≡ v = cc in subst (λ (z : ℤ). IsWithin most z) f h

first_more : (k most more : ℕ) (values : List (Option ℤ)) → IsFirstWithin k most values → most ≤ more
    → IfSome (value_at values k) (λ v. IsWithin more v) → IsFirstWithin (k + 1) more values
first_more k most more values before le here p v lt e = go (cases_lt p k)
  where
    go : (p < k) ⊎ (k ≤ p) → IsWithin more v
    go (inl less) = within_more most more v le (before p v less e)
    go (inr ge) = let same : p ≡ k = omega (arith, lt, ge) in some_is more (value_at values k) v here (sym (ap (value_at values) same) ∙ e)

-- one pixel more, where its own distance is known
pub first_farther : (k most here more : ℕ) (values : List (Option ℤ)) (pixel : Option ℤ) → pixel ≡ value_at values k → more ≡ max most here
    → IsFirstWithin k most values → IfSome pixel (λ v. IsWithin here v) → IsFirstWithin (k + 1) more values
first_farther k most here more values pixel read larger before within =
    first_more k most more values before (omega (arith, larger))
    (some_within here more (value_at values k) (omega (arith, larger)) (subst (λ (o : Option ℤ). IfSome o (λ v. IsWithin here v)) read within))

-- it is no farther than what is enough for all
pub least_farther : (k most here more : ℕ) (values : List (Option ℤ)) (pixel : Option ℤ) → pixel ≡ value_at values k → more ≡ max most here
    → ((bound : ℕ) → HasValuesWithin bound values → most ≤ bound) → ((bound : ℕ) → IfSome pixel (λ v. IsWithin bound v) → here ≤ bound)
    → (bound : ℕ) → HasValuesWithin bound values → more ≤ bound
least_farther k most here more values pixel read larger before least bound within =
    let first : most ≤ bound = before bound within in
    let last : here ≤ bound = least bound (subst (λ (o : Option ℤ). IfSome o (λ v. IsWithin bound v)) (sym read) (in_range-value bound values k within)) in
    omega (arith, larger, first, last)

-- those of all
pub first_all : (k most : ℕ) (values : List (Option ℤ)) → IsFirstWithin k most values → length values ≤ k → HasValuesWithin most values
first_all k most values first all p v e = first p v (omega (arith, slice_get_within values p (Some v) e, all)) (get_or_from_slice_get values p (Some v) None e)

-- ---- a run that was put into others

-- where each value is one of the first ones or of the run, all are in range
pub within_put : (most first : ℕ) (old run new : List (Option ℤ)) → HasValuesWithin most old → HasValuesWithin most run
    → ((k : ℕ) → k < length run → value_at new (first + k) ≡ value_at run k)
    → ((p : ℕ) → p < first → value_at new p ≡ value_at old p)
    → ((p : ℕ) → first + length run ≤ p → value_at new p ≡ value_at old p)
    → HasValuesWithin most new
within_put most first old run new within given inside before behind p v e = go (cases_lt p first) (cases_lt p (first + length run))
  where
    read : value_at new p ≡ Some v
    read = get_or_from_slice_get new p (Some v) None e

    kept : value_at new p ≡ value_at old p → IsWithin most v
    kept same = some_is most (value_at old p) v (in_range-value most old p within) (sym same ∙ read)

    go : (p < first) ⊎ (first ≤ p) → (p < first + length run) ⊎ (first + length run ≤ p) → IsWithin most v
    go (inl lt) d = kept (before p lt)
    go (inr ge) (inr far) = kept (behind p far)
    go (inr ge) (inl near) =
        let place : first + (p - first) ≡ p = omega (arith, ge) in
        some_is most (value_at run (p - first)) v (in_range-value most run (p - first) given)
        (sym (inside (p - first) (omega (arith, ge, near))) ∙ ap (value_at new) place ∙ read)
