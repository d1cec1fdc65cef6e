-- The lists of bands, put one behind the other.
use Rattle.std.proofs.Common.{◌≡◌, ℕ, suc, ◌+◌, ◌*◌, ◌<◌, min, List, [], ◌∷◌, ◌++◌, length, get_or, Result, IfOk, sym, ap, subst, ◌∙◌, arith, add-mul, one-mul, zero-mul}
use Rattle.std.proofs.Common.{mul-le-mul_right, suc-mul, ◌≤◌}
use Rattle.comp_tree.specs.Raster.{Raster}
use Rattle.tree_canon.specs.Canonical.{canonical_between, canonical_in_band}
use Rattle.tree_canon.proofs.Finding.{between-first, between-both}

-- a band that isn't past the last begins below n, where all bands have less than a band's pixels more than n
pub band_inside : (n size bands i : ℕ) → bands * size < n + size → i < bands → i * size < n
band_inside n size bands i reach below =
    let more : suc i * size ≤ bands * size = mul-le-mul_right size below in let one = suc-mul i size in
    let p : ℕ = bands * size in let q : ℕ = i * size in omega (arith, more, one, reach)

-- the results of the bands from g on
abbrev pub AreBands : {V E : Type 0} → (V → List ℕ) → Raster → List ℕ → ℕ → ℕ → List (Result V E) → Type 0
AreBands items r links size g [] = Unit {0}
AreBands items r links size g (x ∷ xs) = IfOk x (λ v. items v ≡ canonical_in_band r links size g) × AreBands items r links size (g + 1) xs

bands_from : {V E : Type 0} (items : V → List ℕ) (r : Raster) (links : List ℕ) (size g : ℕ) (rs : List (Result V E))
    → ((i : ℕ) (d : Result V E) → i < length rs → IfOk (get_or rs i d) (λ v. items v ≡ canonical_in_band r links size (g + i)))
    → AreBands items r links size g rs
bands_from items r links size g [] each = tt
bands_from {V = V} {E = E} items r links size g (x ∷ xs) each =
    let P : ℕ → Result V E → Type 0 = λ k y. IfOk y (λ v. items v ≡ canonical_in_band r links size k) in (
      subst (λ (k : ℕ). P k x) (let e : g + 0 ≡ g = omega arith in e) (each 0 x (omega arith)),
      bands_from items r links size (g + 1) xs (λ i d h. subst (λ (k : ℕ). P k (get_or xs i d)) (let e : g + suc i ≡ g + 1 + i =
          omega arith in e) (each (suc i) d (omega arith))),
    )

pub bands_all : {V E : Type 0} (items : V → List ℕ) (r : Raster) (links : List ℕ) (size : ℕ) (rs : List (Result V E))
    → ((i : ℕ) (d : Result V E) → i < length rs → IfOk (get_or rs i d) (λ v. items v ≡ canonical_in_band r links size i))
    → AreBands items r links size 0 rs
bands_all {V = V} {E = E} items r links size rs each =
    bands_from items r links size 0 rs (λ i d h.
    subst (λ (k : ℕ). IfOk (get_or rs i d) (λ v. items v ≡ canonical_in_band r links size k)) (let e : i ≡ 0 + i = omega arith in e) (each i d h))

-- no band yet
pub bands_none : (r : Raster) (links : List ℕ) (size n : ℕ) (xs : List ℕ) → xs ≡ [] → xs ≡ canonical_between r links 0 (min (0 * size) n)
bands_none r links size n xs e =
    let z = zero-mul size in let none : 0 ≡ min (0 * size) n = omega (arith, z) in
    between-first r links 0 xs e ∙ ap (canonical_between r links 0) none

-- one more band
pub band_joins : (r : Raster) (links : List ℕ) (size g n : ℕ) (before xs all : List ℕ) → n ≡ length r.values → g * size < n
    → before ≡ canonical_between r links 0 (min (g * size) n) → xs ≡ canonical_in_band r links size g → all ≡ before ++ xs
    → all ≡ canonical_between r links 0 (min ((g + 1) * size) n)
band_joins r links size g n before xs all is near be xe made =
    let p : ℕ = g * size in
    let first : min p n ≡ p = omega (arith, near) in
    let next : p + size ≡ (g + 1) * size = sym (add-mul g 1 size ∙ ap (λ (x : ℕ). p + x) (one-mul size)) in
    made ∙ (ap (λ ys. ys ++ xs) (be ∙ ap (canonical_between r links 0) first)
    ∙ (ap (λ ys. canonical_between r links 0 p ++ ys) (xe ∙ ap (λ k. canonical_between r links p (min (p + size) k)) (sym is))
    ∙ (between-both r links 0 p (min (p + size) n) (omega arith) (omega (arith, near)) ∙ ap (λ k. canonical_between r links 0 (min k n)) next)))
