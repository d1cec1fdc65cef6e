-- The best rows of a survey in parts.
use Rattle.std.proofs.Common.{◌≡◌, ◌∙◌, ℕ, zero, suc, true, List, [], ◌∷◌, ◌++◌, take, refl, sym, ap, ap₂, subst, inl, inr}
use Rattle.std.specs.List.{AllByRecursion, flat_map}
use Rattle.std.specs.List.Sorted.{IsPermutation}
use Rattle.std.specs.Ordering.{is_lt}
use Rattle.std.proofs.lemmas.Grind.{flat_map-append}
use Rattle.std.proofs.lemmas.List.Sorted.{IsPermutation-sym, IsPermutation-append_comm}
use Rattle.std.proofs.lemmas.Map.Keys.{IsDistinct-IsPermutation}
use Rattle.survey_core.specs.declared.ranking.Row.{Row}
use Rattle.survey_core.specs.Tables.{Table, AreTables, IsFieldTable}
use Rattle.survey_core.specs.Ranking.{ranks_before, ranked, rows_of, all_rows}
use Rattle.survey_core.specs.Ranks.{with_row, with_rows}
use Rattle.survey_core.specs.Parts.{BestOfPartsAreBest, joined_parts}
use Rattle.survey_core.proofs.TableLemmas.{Among, all_among, all_from, name_turned}
use Rattle.survey_core.proofs.RankLemmas.{best_with, with_rows-append}
use Rattle.survey_core.proofs.Places.{Differs, Distinct, Apart, Strict, strict_with_rows, apart_none, rows_among, among_rows, strict_unique, best_are}
use Rattle.survey_core.proofs.Places.{among_left, among_right, among_parts, apart_at, distinct_append, same_field, fields_differ, rows_differ, all_rows_differ}
use Rattle.survey_core.proofs.BestRows.{all_moved, among_moved, distinct_moved, distinct_parts}

abbrev sorted : List Row → List Row
sorted rows = with_rows rows []

-- ---- lists with the same rows

sorted_strict : (xs : List Row) → Distinct xs → Strict (sorted xs)
sorted_strict xs distinct = strict_with_rows xs [] distinct (apart_none xs) tt

from_sorted : (xs : List Row) (x : Row) → Among (sorted xs) x → Among xs x
from_sorted xs x m = elim (rows_among xs [] x m) [ inl k ↦ k | inr k ↦ absurd k ]

to_sorted : (xs : List Row) (x : Row) → Among xs x → Among (sorted xs) x
to_sorted xs x m = among_rows xs [] x (inl m)

same_sorted : (xs ys : List Row) → Distinct xs → Distinct ys → ((x : Row) → Among xs x → Among ys x) → ((x : Row) → Among ys x → Among xs x)
    → sorted xs ≡ sorted ys
same_sorted xs ys dx dy there back =
    strict_unique (sorted xs) (sorted ys) (sorted_strict xs dx) (sorted_strict ys dy) (λ x m. to_sorted ys x (there x (from_sorted xs x m)))
    (λ x m. to_sorted xs x (back x (from_sorted ys x m)))

before_differs : (x : Row) (ys : List Row) → AllByRecursion (λ y. ranks_before x y ≡ true) ys → AllByRecursion (Differs x) ys
before_differs x [] all = tt
before_differs x (y ∷ ys) all = (λ e. let here = all.0 in let same = ap is_lt e in cc, before_differs x ys all.1)

strict_distinct : (xs : List Row) → Strict xs → Distinct xs
strict_distinct [] up = tt
strict_distinct (x ∷ xs) up = (before_differs x xs up.0, strict_distinct xs up.1)

sorted_itself : (xs : List Row) → Strict xs → sorted xs ≡ xs
sorted_itself xs up = strict_unique (sorted xs) xs (sorted_strict xs (strict_distinct xs up)) up (from_sorted xs) (to_sorted xs)

-- ---- the first of them

among_take : (k : ℕ) (xs : List Row) (x : Row) → Among (take k xs) x → Among xs x
among_take zero xs x m = absurd m
among_take (suc k) [] x m = absurd m
among_take (suc k) (y ∷ ys) x (inl e) = inl e
among_take (suc k) (y ∷ ys) x (inr m) = inr (among_take k ys x m)

strict_take : (k : ℕ) (xs : List Row) → Strict xs → Strict (take k xs)
strict_take zero xs up = tt
strict_take (suc k) [] up = tt
strict_take (suc k) (x ∷ xs) up = (
  all_from (λ y. ranks_before x y ≡ true) (take k xs) (λ y m. all_among (λ y. ranks_before x y ≡ true) xs y up.0 (among_take k xs y m)),
  strict_take k xs up.1,
)

take_twice : (k : ℕ) (xs : List Row) → take k xs ≡ take k (take k xs)
take_twice zero xs = refl
take_twice (suc k) [] = refl
take_twice (suc k) (x ∷ xs) = ap (λ l. x ∷ l) (take_twice k xs)

-- of what the rows are put into, the best decide
best_with_rows : (k : ℕ) (rows xs : List Row) → take k (with_rows rows xs) ≡ take k (with_rows rows (take k xs))
best_with_rows k [] xs = take_twice k xs
best_with_rows k (r ∷ rows) xs =
    best_with_rows k rows (with_row r xs) ∙ ap (λ l. take k (with_rows rows l)) (best_with k r xs) ∙ sym (best_with_rows k rows (with_row r (take k xs)))

abbrev best : ℕ → List Row → List Row
best k rows = take k (sorted rows)

best_strict : (k : ℕ) (xs : List Row) → Distinct xs → Strict (best k xs)
best_strict k xs distinct = strict_take k (sorted xs) (sorted_strict xs distinct)

from_best : (k : ℕ) (xs : List Row) (x : Row) → Among (best k xs) x → Among xs x
from_best k xs x m = from_sorted xs x (among_take k (sorted xs) x m)

-- ---- two parts

best_first : (k : ℕ) (xs ys : List Row) → Distinct xs → best k (xs ++ ys) ≡ best k (best k xs ++ ys)
best_first k xs ys distinct =
    ap (take k) (with_rows-append xs ys []) ∙ best_with_rows k ys (sorted xs)
    ∙ ap (λ l. take k (with_rows ys l)) (sym (sorted_itself (best k xs) (best_strict k xs distinct)))
    ∙ ap (take k) (sym (with_rows-append (best k xs) ys []))

turned : (xs ys : List Row) → Distinct (xs ++ ys) → sorted (xs ++ ys) ≡ sorted (ys ++ xs)
turned xs ys distinct =
    same_sorted (xs ++ ys) (ys ++ xs) distinct (distinct_moved (xs ++ ys) (ys ++ xs) (IsPermutation-append_comm xs ys) distinct)
    (among_moved (ys ++ xs) (xs ++ ys) (IsPermutation-append_comm ys xs)) (among_moved (xs ++ ys) (ys ++ xs) (IsPermutation-append_comm xs ys))

best_second : (k : ℕ) (xs ys ys' : List Row) → Distinct (xs ++ ys) → Distinct (xs ++ ys') → best k ys ≡ best k ys' → best k (xs ++ ys) ≡ best k (xs ++ ys')
best_second k xs ys ys' distinct distinct' same =
    ap (take k) (turned xs ys distinct) ∙ half ys ∙ ap (λ l. take k (with_rows xs l)) same ∙ sym (half ys') ∙ ap (take k) (sym (turned xs ys' distinct'))
  where
    half : (zs : List Row) → best k (zs ++ xs) ≡ take k (with_rows xs (best k zs))
    half zs = ap (take k) (with_rows-append zs xs []) ∙ best_with_rows k xs (sorted zs)

apart_within : (xs ys xs' ys' : List Row) → Apart xs ys → ((x : Row) → Among xs' x → Among xs x) → ((y : Row) → Among ys' y → Among ys y) → Apart xs' ys'
apart_within xs ys [] ys' apart inside inside' = tt
apart_within xs ys (x ∷ xs') ys' apart inside inside' = (
  all_from (Differs x) ys' (λ y m. all_among (Differs x) ys y (apart_at xs ys x apart (inside x (inl refl))) (inside' y m)),
  apart_within xs ys xs' ys' apart (λ z m. inside z (inr m)) inside',
)

-- ---- many parts

module _ {P : Type 0} (rows : P → List Row) (k : ℕ) where
  abbrev bests : List P → List Row
  bests parts = flat_map (λ p. best k (rows p)) parts

  from_bests : (parts : List P) (x : Row) → Among (bests parts) x → Among (flat_map rows parts) x
  from_bests [] x m = m
  from_bests (p ∷ parts) x m = elim (among_parts (best k (rows p)) (bests parts) x m) [
    | inl n ↦ among_left (rows p) (flat_map rows parts) x (from_best k (rows p) x n)
    | inr n ↦ among_right (rows p) (flat_map rows parts) x (from_bests parts x n)
  ]

  pub bests_distinct : (parts : List P) → Distinct (flat_map rows parts) → Distinct (bests parts)
  bests_distinct [] distinct = tt
  bests_distinct (p ∷ parts) distinct =
      let d = distinct_parts (rows p) (flat_map rows parts) distinct in
      distinct_append (best k (rows p)) (bests parts) (strict_distinct (best k (rows p)) (best_strict k (rows p) d.0)) (bests_distinct parts d.1)
      (apart_within (rows p) (flat_map rows parts) (best k (rows p)) (bests parts) d.2 (from_best k (rows p)) (from_bests parts))

  pub best_of_bests : (parts : List P) → Distinct (flat_map rows parts) → best k (flat_map rows parts) ≡ best k (bests parts)
  best_of_bests [] distinct = refl
  best_of_bests (p ∷ parts) distinct =
      let d = distinct_parts (rows p) (flat_map rows parts) distinct in
      let front = strict_distinct (best k (rows p)) (best_strict k (rows p) d.0) in
      best_first k (rows p) (flat_map rows parts) d.0
      ∙ best_second k (best k (rows p)) (flat_map rows parts) (bests parts)
      (distinct_append (best k (rows p)) (flat_map rows parts) front d.1
      (apart_within (rows p) (flat_map rows parts) (best k (rows p)) (flat_map rows parts) d.2 (from_best k (rows p)) (λ y m. m)))
      (bests_distinct (p ∷ parts) distinct) (best_of_bests parts d.1)

-- ---- the rows of the fields

from_rows : (ts : List Table) (x : Row) → Among (flat_map rows_of ts) x → (t : Table) × Among ts t × Among (rows_of t) x
from_rows [] x m = absurd m
from_rows (t ∷ ts) x m = elim (among_parts (rows_of t) (flat_map rows_of ts) x m) [
  | inl k ↦ (t, inl refl, k)
  | inr k ↦ let more = from_rows ts x k in (more.0, inr more.1, more.2)
]

to_rows : (ts : List Table) (t : Table) (x : Row) → Among ts t → Among (rows_of t) x → Among (flat_map rows_of ts) x
to_rows [] t x m k = absurd m
to_rows (u ∷ ts) t x (inl e) k = among_left (rows_of u) (flat_map rows_of ts) x (subst (λ v. Among (rows_of v) x) e k)
to_rows (u ∷ ts) t x (inr m) k = among_right (rows_of u) (flat_map rows_of ts) x (to_rows ts t x m k)

rows_moved : (ts us : List Table) → IsPermutation ts us → (x : Row) → Among (flat_map rows_of us) x → Among (flat_map rows_of ts) x
rows_moved ts us moved x m = let there = from_rows us x m in to_rows ts there.0 x (among_moved ts us moved there.0 there.1) there.2

field_turned : (t u : Table) → same_field t u ≡ same_field u t
field_turned t u = name_turned t.0 u.0

rows_of_parts : (parts : List (List Table)) → flat_map rows_of (joined_parts parts) ≡ flat_map all_rows parts
unfolding all_rows
rows_of_parts [] = refl
rows_of_parts (p ∷ parts) = flat_map-append rows_of p (joined_parts parts) ∙ ap (λ l. flat_map rows_of p ++ l) (rows_of_parts parts)

each_ranked : (k : ℕ) (parts : List (List Table)) → Distinct (flat_map all_rows parts)
    → flat_map (λ p. best k (all_rows p)) parts ≡ flat_map (λ p. ranked (all_rows p) k) parts
each_ranked k [] distinct = refl
each_ranked k (p ∷ parts) distinct =
    let d = distinct_parts (all_rows p) (flat_map all_rows parts) distinct in
    ap₂ ◌++◌ (best_are (all_rows p) d.0 k) (each_ranked k parts d.1)

module _ (survey : List Table) (parts : List (List Table)) (k : ℕ) (are : AreTables survey) (moved : IsPermutation survey (joined_parts parts)) where
  all_distinct : Distinct (flat_map rows_of (joined_parts parts))
  all_distinct = all_rows_differ (joined_parts parts)
      (IsDistinct-IsPermutation same_field field_turned survey (joined_parts parts) moved (fields_differ survey are.0))
      (all_moved IsFieldTable survey (joined_parts parts) moved are.1)

  distinct : Distinct (flat_map all_rows parts)
  distinct = subst Distinct (rows_of_parts parts) all_distinct

  same_rows : sorted (all_rows survey) ≡ sorted (flat_map rows_of (joined_parts parts))
  unfolding all_rows
  same_rows =
      same_sorted (all_rows survey) (flat_map rows_of (joined_parts parts)) (rows_differ survey are) all_distinct
      (rows_moved (joined_parts parts) survey (IsPermutation-sym survey (joined_parts parts) moved)) (rows_moved survey (joined_parts parts) moved)

  best_of_parts : ranked (all_rows survey) k ≡ ranked (flat_map (λ part. ranked (all_rows part) k) parts) k
  best_of_parts =
      sym (best_are (all_rows survey) (rows_differ survey are) k) ∙ ap (take k) same_rows ∙ ap (best k) (rows_of_parts parts)
      ∙ best_of_bests all_rows k parts distinct ∙ ap (best k) (each_ranked k parts distinct)
      ∙ best_are (flat_map (λ part. ranked (all_rows part) k) parts)
      (subst Distinct (each_ranked k parts distinct) (bests_distinct all_rows k parts distinct)) k

pub best_of_parts_are_best : BestOfPartsAreBest
best_of_parts_are_best = best_of_parts
