-- Lists of jobs, put together.
use Rattle.std.proofs.Common.{◌≡◌, ℕ, zero, suc, ◌+◌, ◌*◌, ◌<◌, ◌⊎◌, false, List, [], ◌∷◌, ◌++◌, length, sym, ap, ◌∙◌, subst, inl, inr, ⊎_elim, arith}
use Rattle.std.proofs.Common.{length-append, min, get_or, add-mul, one-mul, Result, IfOk}
use mathlib.Core.Option.{some, some-injective, some-ne-none}
use lib.ListN.{get_elem?}
use Rattle.strip_flood.specs.Jobs.{JobView}
use Rattle.strip_crew.specs.Run.{Plan, IsJobOf}
use Rattle.strip_crew.specs.Claims.{AreReady}
use Rattle.strip_crew.specs.Workers.{AreParts}

at_either : {A : Type 0} (l m : List A) (j : ℕ) (b : A) → get_elem? (l ++ m) j ≡ some b
    → (get_elem? l j ≡ some b) ⊎ ((i : ℕ) × (j ≡ length l + i) × (get_elem? m i ≡ some b))
at_either [] m j b e = inr (j, (let q : j ≡ 0 + j = omega arith in q), e)
at_either (x ∷ xs) m zero b e = inl e
at_either {A = A} (x ∷ xs) m (suc j) b e =
    ⊎_elim (λ (t : get_elem? xs j ≡ some b). inl t)
    (λ (t : (i : ℕ) × (j ≡ length xs + i) × (get_elem? m i ≡ some b)). inr (t.0, (let q = t.1 in omega arith), t.2)) (at_either xs m j b e)

pub ready_none : (plan : Plan) (first : ℕ) → AreReady plan first first []
ready_none plan first = record { count = omega arith; each = λ i job found. absurd (some-ne-none job (sym found)) }

pub ready_one : (plan : Plan) (i : ℕ) (job : JobView) → IsJobOf plan i job → job.flooded ≡ false → AreReady plan i (i + 1) (job ∷ [])
ready_one plan i job its fresh = record { count = omega arith; each = one }
  where
    one : (x : ℕ) (y : JobView) → get_elem? (job ∷ []) x ≡ some y → IsJobOf plan (i + x) y × (y.flooded ≡ false)
    one zero y found = let same = some-injective job y found in let here : i ≡ i + 0 =
        omega arith in (subst (λ (k : ℕ). IsJobOf plan k y) here (subst (IsJobOf plan i) same its), ap (λ (z : JobView). z.flooded) (sym same) ∙ fresh)
    one (suc x) y found = absurd (some-ne-none y (sym found))

pub ready_both : (plan : Plan) (first mid limit : ℕ) (xs ys : List JobView) → AreReady plan first mid xs → AreReady plan mid limit ys
    → AreReady plan first limit (xs ++ ys)
ready_both plan first mid limit xs ys a b = record {
  count = omega (arith, a.count, b.count, length-append xs ys);
  each = λ j job found. ⊎_elim (λ (t : get_elem? xs j ≡ some job). a.each j job t)
      (λ (t : (i : ℕ) × (j ≡ length xs + i) × (get_elem? ys i ≡ some job)). let it = b.each t.0 job t.2 in
      (subst (λ (k : ℕ). IsJobOf plan k job) (let p = t.1 in let q = a.count in let r : mid + t.0 ≡ first + j = omega arith in r) it.0, it.1))
      (at_either xs ys j job found);
}

pub part_joins : (plan : Plan) (size g n : ℕ) (jobs xs all : List JobView) → n ≡ length plan.cut → g * size < n → AreReady plan 0 (min (g * size) n) jobs
    → AreReady plan (g * size) (min (g * size + size) n) xs → all ≡ jobs ++ xs
    → AreReady plan 0 (min ((g + 1) * size) n) all
part_joins plan size g n jobs xs all is near before part made =
    let p : ℕ = g * size in
    let first : min p n ≡ p = omega arith in
    let next : (g + 1) * size ≡ p + size = add-mul g 1 size ∙ ap (λ (x : ℕ). p + x) (one-mul size) in
    subst (AreReady plan 0 (min ((g + 1) * size) n)) (sym made)
    (subst (λ (x : ℕ). AreReady plan 0 (min x n) (jobs ++ xs)) (sym next)
    (ready_both plan 0 p (min (p + size) n) jobs xs (subst (λ (x : ℕ). AreReady plan 0 x jobs) first before) part))

pub parts_from : {V E : Type 0} (items : V → List JobView) (plan : Plan) (size g : ℕ) (rs : List (Result V E))
    → ((i : ℕ) (d : Result V E) → i < length rs
    → IfOk (get_or rs i d) (λ v. AreReady plan ((g + i) * size) (min ((g + i) * size + size) (length plan.cut)) (items v)))
    → AreParts items plan size g rs
parts_from items plan size g [] each = tt
parts_from {V = V} {E = E} items plan size g (r ∷ rs) each =
    let P : ℕ → Result V E → Type 0 = λ x y. IfOk y (λ v. AreReady plan (x * size) (min (x * size + size) (length plan.cut)) (items v)) in (
      subst (λ (x : ℕ). P x r) (let e : g + 0 ≡ g = omega arith in e) (each 0 r (omega arith)),
      parts_from items plan size (g + 1) rs (λ i d h. subst (λ (x : ℕ). P x (get_or rs i d)) (let e : g + suc i ≡ g + 1 + i =
          omega arith in e) (each (suc i) d (omega arith))),
    )

pub parts_all : {V E : Type 0} (items : V → List JobView) (plan : Plan) (size : ℕ) (rs : List (Result V E))
    → ((i : ℕ) (d : Result V E) → i < length rs → IfOk (get_or rs i d) (λ v. AreReady plan (i * size) (min (i * size + size) (length plan.cut)) (items v)))
    → AreParts items plan size 0 rs
parts_all {V = V} {E = E} items plan size rs each =
    parts_from items plan size 0 rs (λ i d h.
    subst (λ (x : ℕ). IfOk (get_or rs i d) (λ v. AreReady plan (x * size) (min (x * size + size) (length plan.cut)) (items v))) (let e : i ≡ 0 + i =
    omega arith in e) (each i d h))
