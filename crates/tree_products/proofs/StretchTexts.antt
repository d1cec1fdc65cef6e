-- The texts of stretches of nodes, put one behind the other.
use Rattle.std.proofs.Common.{◌≡◌, ◌∙◌, ℕ, suc, ◌+◌, ◌-◌, ◌*◌, ◌<◌, ◌≤◌, min, List, [], ◌∷◌, ◌++◌, length, get_or, map, Result, IfOk, sym, ap, subst, arith}
use Rattle.std.proofs.Common.{add-mul, one-mul, suc-mul, zero-mul, mul-le-mul_right, append-nil}
use Rattle.std.specs.List.{concat}
use Rattle.std.proofs.lemmas.List.{map-append}
use Rattle.std.proofs.lemmas.List.Folds.{concat-append}
use Rattle.comp_tree.specs.declared.tree.NodeRow.{NodeRow}
use Rattle.tree_products.specs.LineStretches.{lines_between, lines_of_stretch}
use Rattle.tree_products.proofs.NodeLines.{between_none, between_both}

-- a stretch that isn't past the last begins before the end, where all stretches have less than a stretch's lines more
pub stretch_begins : (first end size stretches i : ℕ) → first ≤ end → stretches * size < end - first + size → i < stretches → first + i * size < end
stretch_begins first end size stretches i le reach below =
    let more : suc i * size ≤ stretches * size = mul-le-mul_right size below in let one = suc-mul i size in
    let p : ℕ = stretches * size in let q : ℕ = i * size in omega (arith, more, one, reach, le)

-- what was made of the stretches from g on
abbrev pub AreTextsFrom : {V E : Type 0} → (V → List ℕ) → (ℕ → List ℕ) → ℕ → List (Result V E) → Type 0
AreTextsFrom bytes lines g [] = Unit {0}
AreTextsFrom bytes lines g (x ∷ xs) = IfOk x (λ v. bytes v ≡ lines g) × AreTextsFrom bytes lines (g + 1) xs

texts_from : {V E : Type 0} (bytes : V → List ℕ) (lines : ℕ → List ℕ) (g : ℕ) (rs : List (Result V E))
    → ((i : ℕ) (d : Result V E) → i < length rs → IfOk (get_or rs i d) (λ v. bytes v ≡ lines (g + i))) → AreTextsFrom bytes lines g rs
texts_from bytes lines g [] each = tt
texts_from {V = V} {E = E} bytes lines g (x ∷ xs) each =
    let P : ℕ → Result V E → Type 0 = λ k y. IfOk y (λ v. bytes v ≡ lines k) in (
      subst (λ (k : ℕ). P k x) (let e : g + 0 ≡ g = omega arith in e) (each 0 x (omega arith)),
      texts_from bytes lines (g + 1) xs (λ i d h. subst (λ (k : ℕ). P k (get_or xs i d)) (let e : g + suc i ≡ g + 1 + i =
          omega arith in e) (each (suc i) d (omega arith))),
    )

pub texts_all : {V E : Type 0} (bytes : V → List ℕ) (lines : ℕ → List ℕ) (rs : List (Result V E))
    → ((i : ℕ) (d : Result V E) → i < length rs → IfOk (get_or rs i d) (λ v. bytes v ≡ lines i)) → AreTextsFrom bytes lines 0 rs
texts_all bytes lines rs each =
    texts_from bytes lines 0 rs (λ i d h.
    subst (λ (k : ℕ). IfOk (get_or rs i d) (λ v. bytes v ≡ lines k)) (let e : i ≡ 0 + i = omega arith in e) (each i d h))

-- no text yet
pub texts_none : {V : Type 0} (bytes : V → List ℕ) (rows : List NodeRow) (areas : List ℕ) (first end size : ℕ) (vs : List V) → first ≤ end → vs ≡ []
    → concat (map bytes vs) ≡ lines_between rows areas first (min (first + 0 * size) end)
texts_none bytes rows areas first end size vs le e =
    ap (λ l. concat (map bytes l)) e ∙ sym (between_none rows areas first)
    ∙ ap (lines_between rows areas first) (let z = zero-mul size in let none : first ≡ min (first + 0 * size) end = omega (arith, z, le) in none)

-- the next text behind those before it
pub texts_join : {V : Type 0} (bytes : V → List ℕ) (rows : List NodeRow) (areas : List ℕ) (first end size g : ℕ) (vs all : List V) (v : V)
    → first + g * size < end → concat (map bytes vs) ≡ lines_between rows areas first (min (first + g * size) end)
    → bytes v ≡ lines_of_stretch rows areas first end size g → all ≡ vs ++ v ∷ []
    → concat (map bytes all) ≡ lines_between rows areas first (min (first + (g + 1) * size) end)
texts_join bytes rows areas first end size g vs all v near before here made =
    let p : ℕ = g * size in
    let place : min (first + p) end ≡ first + p = omega (arith, near) in
    let next : first + p + size ≡ first + (g + 1) * size = (let q = add-mul g 1 size in let one = one-mul size in omega (arith, q, one)) in
    ap (λ l. concat (map bytes l)) made ∙ ap concat (map-append bytes vs (v ∷ [])) ∙ concat-append (map bytes vs) (bytes v ∷ [])
    ∙ ap (λ l. concat (map bytes vs) ++ l) (append-nil (bytes v)) ∙ ap (λ l. l ++ bytes v) (before ∙ ap (lines_between rows areas first) place)
    ∙ ap (λ l. lines_between rows areas first (first + p) ++ l) here
    ∙ between_both rows areas first (first + p) (min (first + p + size) end) (omega arith) (omega (arith, near))
    ∙ ap (λ k. lines_between rows areas first (min k end)) next

-- the texts that reach the end are all
pub texts_end : (rows : List NodeRow) (areas : List ℕ) (first end size g : ℕ) (text : List ℕ) → first ≤ end → end - first ≤ g * size
    → text ≡ lines_between rows areas first (min (first + g * size) end) → text ≡ lines_between rows areas first end
texts_end rows areas first end size g text le reach is =
    is ∙ ap (lines_between rows areas first) (let p : ℕ = g * size in let last : min (first + p) end ≡ end = omega (arith, reach, le) in last)
