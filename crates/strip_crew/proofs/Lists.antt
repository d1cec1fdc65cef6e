-- Lists, what their items weigh together, and sums over the numbers below a bound.
use Rattle.std.proofs.Common.{◌≡◌, ℕ, zero, suc, ◌+◌, ◌<◌, ◌≤◌, ◌≢◌, List, [], ◌∷◌, ◌++◌, map, length, set, sym, refl, ap, arith, cond, eqb, eq-eqb, ne_eqb}
use mathlib.Core.Logic.{dite}
use native.Mathlib.Decide.{ℕ_discrete}
use mathlib.Core.Option.{some, some-injective, some-ne-none}
use lib.ListN.{get_elem?}
use Rattle.atomic_table.proofs.Lists.{set_here}
use Rattle.comp_tree.specs.Counts.{sum_below}
use Rattle.strip_crew.specs.Counting.{total_weight}

module _ {A : Type 0} where
  pub in_range : (l : List A) (j : ℕ) (v : A) → get_elem? l j ≡ some v → j < length l
  in_range [] j v e = absurd (some-ne-none v (sym e))
  in_range (x ∷ xs) zero v e = omega arith
  in_range (x ∷ xs) (suc j) v e = omega (arith, in_range xs j v e)

  pub no_items : (l : List A) → length l ≡ 0 → l ≡ []
  no_items [] e = refl
  no_items (x ∷ xs) e = absurd (omega arith)

  pub map_set : {B : Type 0} (f : A → B) (l : List A) (i : ℕ) (a : A) → map f (set l i a) ≡ set (map f l) i (f a)
  map_set {B = B} f [] i a = refl
  map_set {B = B} f (x ∷ xs) zero a = refl
  map_set {B = B} f (x ∷ xs) (suc i) a = ap (λ (t : List B). f x ∷ t) (map_set f xs i a)

  pub map_append : {B : Type 0} (f : A → B) (l m : List A) → map f (l ++ m) ≡ map f l ++ map f m
  map_append {B = B} f [] m = refl
  map_append {B = B} f (x ∷ xs) m = ap (λ (t : List B). f x ∷ t) (map_append f xs m)

  -- ---- a list without one of its items

  abbrev omit : List A → ℕ → List A
  omit [] j = []
  omit (x ∷ xs) zero = xs
  omit (x ∷ xs) (suc j) = x ∷ omit xs j

  omit_set : (l : List A) (j : ℕ) (w : A) → omit (set l j w) j ≡ omit l j
  omit_set [] j w = refl
  omit_set (x ∷ xs) zero w = refl
  omit_set (x ∷ xs) (suc j) w = ap (λ (t : List A). x ∷ t) (omit_set xs j w)

  -- each other item is still there
  still_there : (l : List A) (j k : ℕ) (u : A) → k ≢ j → get_elem? l k ≡ some u → (i : ℕ) × (get_elem? (omit l j) i ≡ some u)
  still_there [] j k u ne e = absurd (some-ne-none u (sym e))
  still_there (x ∷ xs) zero zero u ne e = absurd (ne refl)
  still_there (x ∷ xs) zero (suc k) u ne e = (k, e)
  still_there (x ∷ xs) (suc j) zero u ne e = (0, e)
  still_there (x ∷ xs) (suc j) (suc k) u ne e = let t = still_there xs j k u (λ h. ne (ap suc h)) e in (suc t.0, t.1)

  -- and nothing else
  was_there : (l : List A) (j i : ℕ) (u : A) → get_elem? (omit l j) i ≡ some u → (k : ℕ) × (k ≢ j) × (get_elem? l k ≡ some u)
  was_there [] j i u e = absurd (some-ne-none u (sym e))
  was_there (x ∷ xs) zero i u e = (suc i, (λ h. omega arith), e)
  was_there (x ∷ xs) (suc j) zero u e = (0, (λ h. omega arith), e)
  was_there (x ∷ xs) (suc j) (suc i) u e = let t = was_there xs j i u e in (suc t.0, (λ h. t.1 (omega arith)), t.2)

  -- ---- weights

  module _ (g : A → ℕ) where
    pub total_append : (l m : List A) → total_weight g (l ++ m) ≡ total_weight g l + total_weight g m
    total_append [] m = omega arith
    total_append (x ∷ xs) m = omega (arith, total_append xs m)

    total_omit : (l : List A) (j : ℕ) (v : A) → get_elem? l j ≡ some v → total_weight g l ≡ g v + total_weight g (omit l j)
    total_omit [] j v e = absurd (some-ne-none v (sym e))
    total_omit (x ∷ xs) zero v e = omega (arith, ap g (some-injective x v e))
    total_omit (x ∷ xs) (suc j) v e = omega (arith, total_omit xs j v e)

    pub total_set : (l : List A) (j : ℕ) (v w : A) → get_elem? l j ≡ some v → total_weight g (set l j w) + g v ≡ total_weight g l + g w
    total_set l j v w e =
        omega (arith, total_omit l j v e, total_omit (set l j w) j w (set_here l j w (in_range l j v e)), ap (total_weight g) (omit_set l j w))

    pub term_le : (l : List A) (j : ℕ) (v : A) → get_elem? l j ≡ some v → g v ≤ total_weight g l
    term_le l j v e = omega (arith, total_omit l j v e)

    pub terms_le : (l : List A) (j k : ℕ) (v u : A) → k ≢ j → get_elem? l j ≡ some v → get_elem? l k ≡ some u → g v + g u ≤ total_weight g l
    terms_le l j k v u ne e d = let t = still_there l j k u ne d in omega (arith, total_omit l j v e, term_le (omit l j) t.0 u t.1)

    pub total_none : (l : List A) → ((i : ℕ) (u : A) → get_elem? l i ≡ some u → g u ≡ 0) → total_weight g l ≡ 0
    total_none [] weightless = refl
    total_none (x ∷ xs) weightless = omega (arith, weightless 0 x refl, total_none xs (λ i u e. weightless (suc i) u e))

    pub total_alone : (l : List A) (j : ℕ) (v : A) → get_elem? l j ≡ some v → ((i : ℕ) (u : A) → i ≢ j → get_elem? l i ≡ some u → g u ≡ 0)
        → total_weight g l ≡ g v
    total_alone l j v e weightless = omega (arith, total_omit l j v e, total_none (omit l j) (λ i u d. let t = was_there l j i u d in weightless t.0 u t.1 t.2))

  pub total_same : (f g : A → ℕ) (l : List A) → ((u : A) → f u ≡ g u) → total_weight f l ≡ total_weight g l
  total_same f g [] e = refl
  total_same f g (x ∷ xs) e = omega (arith, e x, total_same f g xs e)

  pub total_one : (l : List A) → total_weight (λ _. 1) l ≡ length l
  total_one [] = refl
  total_one (x ∷ xs) = let t = total_one xs in omega arith

-- ---- sums over the numbers below a bound

pub below_one : (n : ℕ) → sum_below (λ _. 1) n ≡ n
below_one zero = refl
below_one (suc n) = let t = below_one n in omega arith

pub below_next : (f : ℕ → ℕ) (n : ℕ) → sum_below f (n + 1) ≡ sum_below f n + f n
below_next f n = let e : n + 1 ≡ suc n = omega arith in ap (sum_below f) e

-- 1 at k, else 0
abbrev pub only : ℕ → ℕ → ℕ
only k x = cond (eqb x k) 1 0

pub only_same : (k : ℕ) → only k k ≡ 1
only_same k = ap (λ b. cond b 1 0) (eq-eqb k k refl)

pub only_other : (k x : ℕ) → x ≢ k → only k x ≡ 0
only_other k x ne = ap (λ b. cond b 1 0) (ne_eqb x k ne)

pub below_only : (k n : ℕ) → (sum_below (only k) n ≤ 1) × (n ≤ k → sum_below (only k) n ≡ 0) × (k < n → sum_below (only k) n ≡ 1)
below_only k zero = (omega arith, (λ _. refl), λ h. absurd (omega arith))
below_only k (suc n) =
    let before = below_only k n in
    dite (ℕ_discrete n k)
    (λ e. let none_yet = before.1 (omega arith) in let one : only k n ≡ 1 = ap (λ b. cond b 1 0) (eq-eqb n k e) in
    (omega arith, (λ h. absurd (omega arith)), λ h. omega arith))
    (λ ne. let zero_here : only k n ≡ 0 = only_other k n ne in
    (omega (arith, before.0), (λ h. omega (arith, before.1 (omega arith))), λ h. omega (arith, before.2 (omega arith))))
