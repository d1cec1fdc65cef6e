-- The best rows so far, kept as a heap.
use Rattle.std.proofs.Common.{◌≡◌, ◌∙◌, ℕ, suc, ◌+◌, ◌<◌, ◌≤◌, ◌==◌, Bool, not, true, false, List, [], ◌∷◌, ◌++◌, length, take, get_or}
use Rattle.std.proofs.Common.{append-nil, append_assoc}
use Rattle.std.proofs.Common.{refl, sym, ap, subst, arith, take_all, inl, inr, Ordering, Less, Equal, Greater}
use Rattle.std.proofs.Common.{Result, Ok, Err, OnOk, Some, None}
use Rattle.std.specs.Prelude.{Option, IfSome, IsSome}
use Rattle.std.specs.BinaryHeap.{IsHeap, IsUpperBound, KeepsHeap, PopsGreatest}
use Rattle.std.specs.List.{AllByRecursion, IsDistinct}
use Rattle.std.specs.List.Sorted.{IsPermutation, IsSorted}
use Rattle.std.specs.Ordering.{is_eq, is_lt, ordering_index, ordering_reverse}
use Rattle.std.proofs.lemmas.List.{take_more}
use Rattle.std.proofs.lemmas.List.Elements.{All-from_recursion, recursion_from_All}
use Rattle.std.proofs.lemmas.List.Sorted.{All-permutation, IsPermutation-refl, IsPermutation-sym, IsPermutation-trans, IsPermutation-cons, IsPermutation-middle}
use Rattle.std.proofs.lemmas.List.Sorted.{IsPermutation-push_more, IsPermutation-append_left, length_permutation, ranks_by, sorted_far}
use Rattle.std.proofs.lemmas.Map.Keys.{IsDistinct-IsPermutation}
use Rattle.survey_core.specs.declared.ranking.Row.{Row}
use Rattle.survey_core.specs.Ranking.{row_cmp, ranks_before}
use Rattle.survey_core.specs.Ranks.{AreBest, with_rows}
use Rattle.survey_core.proofs.TableLemmas.{Among, all_among, all_from}
use Rattle.survey_core.proofs.RankLemmas.{order, before_later, not_both, take_front}
use Rattle.survey_core.proofs.Places.{Differs, Distinct, Apart, Strict, other_way, differs_back, strict_with_rows, apart_none}
use Rattle.survey_core.proofs.Places.{rows_among, among_rows, strict_unique}
use Rattle.survey_core.proofs.Places.{among_left, among_right, among_parts, apart_at}

pub all_moved : {X : Type 0} (P : X → Type 0) (xs ys : List X) → IsPermutation xs ys → AllByRecursion P xs → AllByRecursion P ys
all_moved P xs ys moved all = recursion_from_All P ys (All-permutation P xs ys moved (All-from_recursion P xs all))

pub among_moved : {X : Type 0} (xs ys : List X) → IsPermutation xs ys → (x : X) → Among ys x → Among xs x
among_moved xs ys moved x m = all_among (Among xs) ys x (all_moved (Among xs) xs ys moved (all_from (Among xs) xs (λ y k. k))) m

pub not_less : (o : Ordering) → not (ordering_index o == 0) ≡ true → is_lt o ≡ false
not_less Less h = absurd (cc)
not_less Equal h = refl
not_less Greater h = refl

-- what isn't before the last of them is before none
pub late_is_behind : (row last : Row) (best : List Row) → ranks_before row last ≡ false → IsUpperBound row_cmp last best
    → AllByRecursion (λ r. ranks_before row r ≡ false) best
late_is_behind row last [] late all = tt
late_is_behind row last (r ∷ rest) late all = (by (ranks_before row r) refl, late_is_behind row last rest late all.1)
  where
    by : (b : Bool) → ranks_before row r ≡ b → ranks_before row r ≡ false
    by false e = e
    by true e = let chain = before_later row r last e all.0 in absurd (cc)

-- ---- one row more

pub none_best : (most : ℕ) (items : List Row) → items ≡ [] → IsHeap row_cmp items → AreBest most [] items
none_best most items is heap = record {
  others = [];
  same = subst (λ l. IsPermutation [] (l ++ [])) (sym is) (IsPermutation-refl []);
  heap = heap;
  behind = tt;
  few = omega (arith, ap length is);
  full = inl refl;
}

pub one_more : (most : ℕ) (rows best best' : List Row) (row : Row) → AreBest most rows best → length best < most → IsPermutation (row ∷ best) best'
    → (IsHeap row_cmp best → IsHeap row_cmp best') → AreBest most (rows ++ row ∷ []) best'
one_more most rows best best' row are room moved heap = record {
  others = [];
  same = subst (IsPermutation (rows ++ row ∷ [])) (sym (append-nil best')) (IsPermutation-push_more rows best best' row all moved);
  heap = heap are.heap;
  behind = tt;
  few = omega (arith, room, length_permutation (row ∷ best) best' moved);
  full = inl refl;
}
  where
    none : are.others ≡ []
    none = elim are.full [ inl e ↦ e | inr e ↦ absurd (omega (arith, room, e)) ]

    all : IsPermutation rows best
    all = subst (IsPermutation rows) (ap (λ l. best ++ l) none ∙ append-nil best) are.same

pub one_late : (most : ℕ) (rows best : List Row) (row : Row) → AreBest most rows best → most ≤ length best
    → AllByRecursion (λ r. ranks_before row r ≡ false) best → AreBest most (rows ++ row ∷ []) best
one_late most rows best row are late after = record {
  others = row ∷ are.others;
  same = IsPermutation-push_more rows (best ++ are.others) (best ++ row ∷ are.others) row are.same
      (IsPermutation-sym _ _ (IsPermutation-middle best row are.others));
  heap = are.heap;
  behind = (after, are.behind);
  few = are.few;
  full = inr (omega (arith, late, are.few));
}

pub best_of : (most : ℕ) (best : List Row) {rows rows' : List Row} → rows ≡ rows' → AreBest most rows best → AreBest most rows' best
best_of most best same are = subst (λ l. AreBest most l best) same are

pub one_row_more : (rows more : List Row) (i : ℕ) (row : Row) → i < length more → row ≡ get_or more i row
    → (rows ++ take i more) ++ row ∷ [] ≡ rows ++ take (i + 1) more
one_row_more rows more i row h is =
    append_assoc rows (take i more) (row ∷ []) ∙ ap (λ r. rows ++ (take i more ++ r ∷ [])) is
    ∙ ap (λ l. rows ++ l) (sym (take_more more i row h))

-- the row in place of the last
module _ (most : ℕ) (rows best rest best' : List Row) (row last : Row) (are : AreBest most rows best) (late : most ≤ length best) (taken : IsPermutation best
    (last ∷ rest)) (bound : IsUpperBound row_cmp last best) (put : IsPermutation (row ∷ rest) best') (early : ranks_before row last ≡ true) where
  exchanged : IsPermutation (row ∷ best) (last ∷ best')
  exchanged =
      IsPermutation-trans (row ∷ best) (row ∷ last ∷ rest) (last ∷ best') (IsPermutation-cons row best (last ∷ rest) taken)
      (IsPermutation-trans (row ∷ last ∷ rest) (last ∷ row ∷ rest) (last ∷ best') (IsPermutation-middle (row ∷ []) last rest)
      (IsPermutation-cons last (row ∷ rest) best' put))

  all_rows_are : IsPermutation (row ∷ (best ++ are.others)) (best' ++ last ∷ are.others)
  all_rows_are =
      IsPermutation-trans (row ∷ (best ++ are.others)) (last ∷ (best' ++ are.others)) (best' ++ last ∷ are.others)
      (IsPermutation-append_left are.others (row ∷ best) (last ∷ best') exchanged)
      (IsPermutation-sym _ _ (IsPermutation-middle best' last are.others))

  none_before_new : (o : Row) → AllByRecursion (λ r. ranks_before o r ≡ false) best → ranks_before o row ≡ false
      → AllByRecursion (λ r. ranks_before o r ≡ false) best'
  none_before_new o all here = all_moved (λ r. ranks_before o r ≡ false) (row ∷ rest) best' put (
    here,
    (all_moved (λ r. ranks_before o r ≡ false) best
        (last ∷ rest) taken all).1,
  )

  not_before_row : (o : Row) → AllByRecursion (λ r. ranks_before o r ≡ false) best → ranks_before o row ≡ false
  not_before_row o all = by (ranks_before o row) refl
    where
      by : (b : Bool) → ranks_before o row ≡ b → ranks_before o row ≡ false
      by false e = e
      by true e =
          let last_after = (all_moved (λ r. ranks_before o r ≡ false) best (last ∷ rest) taken all).0 in
          let chain = before_later o row last e (not_both row last early) in
          absurd (cc)

  others_behind : (os : List Row) → AllByRecursion (λ o. AllByRecursion (λ r. ranks_before o r ≡ false) best) os
      → AllByRecursion (λ o. AllByRecursion (λ r. ranks_before o r ≡ false) best') os
  others_behind [] all = tt
  others_behind (o ∷ os) all = (none_before_new o all.0 (not_before_row o all.0), others_behind os all.1)

  pub one_replaced : (IsHeap row_cmp best → IsHeap row_cmp rest) → (IsHeap row_cmp rest → IsHeap row_cmp best') → AreBest most (rows ++ row ∷ []) best'
  one_replaced popped pushed = record {
    others = last ∷ are.others;
    same = IsPermutation-push_more rows (best ++ are.others) (best' ++ last ∷ are.others) row are.same all_rows_are;
    heap = pushed (popped are.heap);
    behind = (none_before_new last bound (not_both row last early), others_behind are.others are.behind);
    few = omega (arith, are.few, length_permutation best (last ∷ rest) taken, length_permutation (row ∷ rest) best' put);
    full = inr (omega (arith, late, are.few, length_permutation best (last ∷ rest) taken, length_permutation (row ∷ rest) best' put));
  }

on_both : {A E : Type 0} (r : Result A E) (P Q R : Type 0) → OnOk r P → OnOk r Q → (P → Q → R) → OnOk r R
on_both (Ok x) P Q R p q f = f p q
on_both (Err e) P Q R p q f = tt

pub pushed_ok : {A E : Type 0} (r : Result A E) (most : ℕ) (rows best best' : List Row) (row : Row) → AreBest most rows best → length best < most
    → OnOk r (IsPermutation (row ∷ best) best') → OnOk r (KeepsHeap row_cmp best best') → OnOk r (AreBest most (rows ++ row ∷ []) best')
pushed_ok r most rows best best' row are room put heap = on_both r _ _ _ put heap (λ p h. one_more most rows best best' row are room p h)

pub replaced_ok : {A E : Type 0} (o : Option Row) (r : Result A E) (most : ℕ) (rows best rest best' : List Row) (row : Row) → AreBest most rows best
    → most ≤ length best → IsSome o → IfSome o (λ x. x ≡ get_or best 0 x) → IfSome o (λ x. IsPermutation best (x ∷ rest))
    → IfSome o (λ x. PopsGreatest row_cmp best x rest) → ((d : Row) → ranks_before row (get_or best 0 d) ≡ true)
    → OnOk r (IsPermutation (row ∷ rest) best') → OnOk r (KeepsHeap row_cmp rest best') → OnOk r (AreBest most (rows ++ row ∷ []) best')
replaced_ok None r most rows best rest best' row are late some top taken greatest early put heap = absurd (let bad = some in cc)
replaced_ok (Some last) r most rows best rest best' row are late some top taken greatest early put heap =
    on_both r _ _ _ put heap (λ p h. one_replaced most rows best rest best' row last are late taken (greatest are.heap).1 p
    (subst (λ x. ranks_before row x ≡ true) (sym top) (early last)) (λ k. (greatest k).0) h)

-- ---- the best in their order

-- neither comes before the other
abbrev tied : Row → Row → Bool
tied a b = is_eq (row_cmp a b)

tied_back : (a b : Row) → tied a b ≡ tied b a
tied_back a b = ap is_eq (order.antisymm a b) ∙ by (row_cmp b a)
  where
    by : (o : Ordering) → is_eq (ordering_reverse o) ≡ is_eq o
    by Less = refl
    by Equal = refl
    by Greater = refl

untied : (a b : Row) → Differs a b → tied a b ≡ false
untied a b differs = by (row_cmp a b) refl
  where
    by : (o : Ordering) → row_cmp a b ≡ o → is_eq o ≡ false
    by Less e = refl
    by Equal e = absurd (differs e)
    by Greater e = refl

all_untied : (a : Row) (xs : List Row) → AllByRecursion (Differs a) xs → AllByRecursion (λ y. tied a y ≡ false) xs
all_untied a [] all = tt
all_untied a (x ∷ xs) all = (untied a x all.0, all_untied a xs all.1)

all_differ : (a : Row) (xs : List Row) → AllByRecursion (λ y. tied a y ≡ false) xs → AllByRecursion (Differs a) xs
all_differ a [] all = tt
all_differ a (x ∷ xs) all = (λ e. let other = all.0 in let same = ap is_eq e in cc, all_differ a xs all.1)

distinct_to : (xs : List Row) → Distinct xs → IsDistinct tied xs
unfolding IsDistinct
distinct_to [] h = tt
distinct_to (x ∷ xs) h = (all_untied x xs h.0, distinct_to xs h.1)

distinct_from : (xs : List Row) → IsDistinct tied xs → Distinct xs
unfolding IsDistinct
distinct_from [] h = tt
distinct_from (x ∷ xs) h = (all_differ x xs h.0, distinct_from xs h.1)

pub distinct_moved : (xs ys : List Row) → IsPermutation xs ys → Distinct xs → Distinct ys
distinct_moved xs ys moved h = distinct_from ys (IsDistinct-IsPermutation tied tied_back xs ys moved (distinct_to xs h))

all_front : (P : Row → Type 0) (xs ys : List Row) → AllByRecursion P (xs ++ ys) → AllByRecursion P xs × AllByRecursion P ys
all_front P [] ys all = (tt, all)
all_front P (x ∷ xs) ys all = let more = all_front P xs ys all.1 in ((all.0, more.0), more.1)

pub distinct_parts : (xs ys : List Row) → Distinct (xs ++ ys) → Distinct xs × Distinct ys × Apart xs ys
distinct_parts [] ys h = (tt, h, tt)
distinct_parts (x ∷ xs) ys h =
    let here = all_front (Differs x) xs ys h.0 in
    let more = distinct_parts xs ys h.1 in
    ((here.0, more.0), more.1, (here.1, more.2))

strict_from_sorted : (xs : List Row) → ((i j : ℕ) (d : Row) → i ≤ j → j < length xs → ranks_before (get_or xs j d) (get_or xs i d) ≡ false) → Distinct xs
    → Strict xs
strict_from_sorted [] far distinct = tt
strict_from_sorted (x ∷ xs) far distinct = (
  all_before xs (recursion_from_All (λ y. ranks_before y x ≡ false) xs (λ k d h. far 0 (suc k) d (omega arith) (omega (arith, h)))) distinct.0,
  strict_from_sorted xs (λ i j d less h. far (suc i) (suc j) d (omega (arith, less)) (omega (arith, h))) distinct.1,
)
  where
    all_before : (ys : List Row) → AllByRecursion (λ y. ranks_before y x ≡ false) ys → AllByRecursion (Differs x) ys
        → AllByRecursion (λ y. ranks_before x y ≡ true) ys
    all_before [] after differ = tt
    all_before (y ∷ ys) after differ = (other_way y x (differs_back x y differ.0) after.0, all_before ys after.1 differ.1)

strict_append : (xs ys : List Row) → Strict xs → Strict ys → ((x y : Row) → Among xs x → Among ys y → ranks_before x y ≡ true) → Strict (xs ++ ys)
strict_append [] ys up more before = more
strict_append (x ∷ xs) ys up more before = (
  all_from (λ y. ranks_before x y ≡ true) (xs ++ ys) (λ y m. elim (among_parts xs ys y m) [
    | inl k ↦ all_among (λ y. ranks_before x y ≡ true) xs y up.0 k
    | inr k ↦ before x y (inl refl) k
  ]),
  strict_append xs ys up.1 more (λ x y m k. before x y (inr m) k),
)

module _ (most : ℕ) (rows best sorted : List Row) (are : AreBest most rows best) (distinct : Distinct rows) (moved : IsPermutation best
    sorted) (up : IsSorted row_cmp sorted) where
  abbrev behind : List Row
  behind = with_rows are.others []

  moved_all : IsPermutation rows (sorted ++ are.others)
  moved_all = IsPermutation-trans rows (best ++ are.others) (sorted ++ are.others) are.same (IsPermutation-append_left are.others best sorted moved)

  parts : Distinct sorted × Distinct are.others × Apart sorted are.others
  parts = distinct_parts sorted are.others (distinct_moved rows (sorted ++ are.others) moved_all distinct)

  sorted_strict : Strict sorted
  sorted_strict = strict_from_sorted sorted (sorted_far ranks_before (ranks_by order (λ x. x)) sorted up) parts.0

  before_others : (x y : Row) → Among sorted x → Among are.others y → ranks_before x y ≡ true
  before_others x y m k =
      let all = all_among (λ o. AllByRecursion (λ r. ranks_before o r ≡ false) best) are.others y are.behind k in
      let after = all_among (λ r. ranks_before y r ≡ false) best x all
      (among_moved best sorted moved x m) in
      let differ = all_among (Differs x) are.others y (apart_at sorted are.others x parts.2 m) k in
      other_way y x (differs_back x y differ) after

  from_behind : (y : Row) → Among behind y → Among are.others y
  from_behind y m = elim (rows_among are.others [] y m) [ inl k ↦ k | inr k ↦ absurd k ]

  all_strict : Strict (sorted ++ behind)
  all_strict =
      strict_append sorted behind sorted_strict (strict_with_rows are.others [] parts.1 (apart_none are.others) tt)
      (λ x y m k. before_others x y m (from_behind y k))

  to_parts : (x : Row) → Among rows x → Among (sorted ++ are.others) x
  to_parts = among_moved (sorted ++ are.others) rows (IsPermutation-sym rows (sorted ++ are.others) moved_all)

  all_are : sorted ++ behind ≡ with_rows rows []
  all_are =
      strict_unique (sorted ++ behind) (with_rows rows []) all_strict (strict_with_rows rows [] distinct (apart_none rows) tt)
      (λ x m. among_rows rows [] x (inl (among_moved rows (sorted ++ are.others) moved_all x (elim (among_parts sorted behind x m) [
        | inl k ↦ among_left sorted are.others x k
        | inr k ↦ among_right sorted are.others x (from_behind x k)
      ]))))
      (λ x m. elim (rows_among rows [] x m) [
        | inl k ↦ elim (among_parts sorted are.others x (to_parts x k)) [
          | inl n ↦ among_left sorted behind x n
          | inr n ↦ among_right sorted behind x (among_rows are.others [] x (inl n))
        ]
        | inr k ↦ absurd k
      ])

  long : length sorted ≤ most
  long = omega (arith, are.few, length_permutation best sorted moved)

  pub best_sorted : sorted ≡ take most (with_rows rows [])
  best_sorted = elim are.full [
    | inl none ↦ sym (ap (take most) (sym all_are ∙ ap (λ l. sorted ++ with_rows l []) none ∙ append-nil sorted) ∙ take_all most sorted long)
    | inr full ↦
        let same : length sorted ≡ most = length_permutation best sorted moved ∙ full in
        sym (ap (take most) (sym all_are) ∙ take_front most sorted behind (omega (arith, same)) ∙ take_all most sorted long)
  ]
