-- The place of each row is the number of rows that come before it.
use Rattle.std.proofs.Common.{◌≡◌, ◌≢◌, ◌∙◌, ℕ, zero, suc, ◌+◌, ◌*◌, ◌<◌, ◌≤◌, ◌==◌, ◌⊎◌, inl, inr, Bool, true, false, cond, List, [], ◌∷◌, ◌++◌}
use Rattle.std.proofs.Common.{length, map, filter, take, drop, get_or, Some, None, refl, sym, ap, ap₂, subst, arith, Ordering, Less, Equal, Greater}
use Rattle.std.proofs.Common.{ℤ, pos}
use Rattle.std.specs.Prelude.{Option, find, slice_get, unwrap_or, unsigned_abs}
use Rattle.std.specs.Option.{option_to_list}
use Rattle.std.specs.List.{AllByRecursion, IsDistinct, range_with_len, flat_map}
use Rattle.std.specs.Ordering.{ordering_then, ordering_reverse, is_eq, is_lt, int_cmp}
use Rattle.std.proofs.lemmas.Bool.Decides.{nat_tests}
use Rattle.std.proofs.lemmas.Cmp.{int_ranked}
use Rattle.std.proofs.lemmas.Map.Keys.{IsDistinct-head, IsDistinct-tail}
use Rattle.std.proofs.lemmas.Option.{get_or_from_slice_get}
use Rattle.lemmas.proofs.Exported.{one_if}
use Rattle.fits_write.specs.CatalogueColumns.{cells_in_row}
use Rattle.survey_core.specs.declared.ranking.Row.{Row}
use Rattle.survey_core.specs.Fields.{name_cmp}
use Rattle.survey_core.specs.Tables.{Table, AreInOrder, AreTables, IsFieldTable, IsNumbered}
use Rattle.survey_core.specs.Listings.{rows_in}
use Rattle.survey_core.specs.Ranking.{row_cmp, ranks_before, place_in, at_place, ranked, ranking_row, rows_of, all_rows}
use Rattle.survey_core.specs.Ranks.{with_row, with_rows}
use Rattle.survey_core.proofs.TableLemmas.{then_equal, Among, all_among}
use Rattle.survey_core.proofs.RankLemmas.{all_with, order, never_itself, not_both, before_later}

-- ---- rows that differ

-- neither is the other's equal
abbrev pub Differs : Row → Row → Type 0
Differs a b = row_cmp a b ≢ Equal

abbrev pub Distinct : List Row → Type 0
Distinct [] = Unit {0}
Distinct (r ∷ rows) = AllByRecursion (Differs r) rows × Distinct rows

-- each comes before all behind it
abbrev pub Strict : List Row → Type 0
Strict [] = Unit {0}
Strict (r ∷ rows) = AllByRecursion (λ later. ranks_before r later ≡ true) rows × Strict rows

pub other_way : (a b : Row) → Differs a b → ranks_before a b ≡ false → ranks_before b a ≡ true
other_way a b differs h = by (row_cmp a b) refl
  where
    by : (o : Ordering) → row_cmp a b ≡ o → ranks_before b a ≡ true
    by Less e = absurd (let bad = ap is_lt e in cc)
    by Equal e = absurd (differs e)
    by Greater e = ap is_lt (order.antisymm b a ∙ ap ordering_reverse e)

pub differs_back : (a b : Row) → Differs a b → Differs b a
differs_back a b differs e = differs (order.antisymm a b ∙ ap ordering_reverse e)

before_all : (r x : Row) (xs : List Row) → ranks_before r x ≡ true → AllByRecursion (λ y. ranks_before x y ≡ true) xs
    → AllByRecursion (λ y. ranks_before r y ≡ true) xs
before_all r x [] h all = tt
before_all r x (y ∷ ys) h all = (before_later r x y h (not_both x y all.0), before_all r x ys h all.1)

pub strict_with : (r : Row) (xs : List Row) → AllByRecursion (Differs r) xs → Strict xs → Strict (with_row r xs)
strict_with r [] differs h = (tt, tt)
strict_with r (x ∷ xs) differs h = by (ranks_before r x) refl (strict_with r xs differs.1 h.1)
  where
    by : (b : Bool) → ranks_before r x ≡ b → Strict (with_row r xs) → Strict (cond b (r ∷ x ∷ xs) (x ∷ with_row r xs))
    by true e more = ((e, before_all r x xs e h.0), h)
    by false e more = (all_with (λ y. ranks_before x y ≡ true) r xs (other_way r x differs.0 e) h.0, more)

-- all of the one list differ from all of the other
abbrev pub Apart : List Row → List Row → Type 0
Apart [] xs = Unit {0}
Apart (r ∷ rows) xs = AllByRecursion (Differs r) xs × Apart rows xs

pub apart_with : (rows : List Row) (r : Row) (xs : List Row) → AllByRecursion (Differs r) rows → Apart rows xs → Apart rows (with_row r xs)
apart_with [] r xs differs apart = tt
apart_with (q ∷ rows) r xs differs apart = (all_with (Differs q) r xs (differs_back r q differs.0) apart.0, apart_with rows r xs differs.1 apart.1)

pub strict_with_rows : (rows xs : List Row) → Distinct rows → Apart rows xs → Strict xs → Strict (with_rows rows xs)
strict_with_rows [] xs distinct apart h = h
strict_with_rows (r ∷ rows) xs distinct apart h =
    strict_with_rows rows (with_row r xs) distinct.1 (apart_with rows r xs distinct.0 apart.1) (strict_with r xs apart.0 h)

pub apart_none : (rows : List Row) → Apart rows []
apart_none [] = tt
apart_none (r ∷ rows) = (tt, apart_none rows)

-- ---- how many pass a test

count_first : (test : Row → Bool) (r : Row) (xs : List Row) → length (filter test (r ∷ xs)) ≡ one_if (test r) + length (filter test xs)
count_first test r xs = by (test r)
  where
    by : (b : Bool) → length (cond b (r ∷ filter test xs) (filter test xs)) ≡ one_if b + length (filter test xs)
    by true = omega arith
    by false = omega arith

count_with : (test : Row → Bool) (r : Row) (xs : List Row) → length (filter test (with_row r xs)) ≡ one_if (test r) + length (filter test xs)
count_with test r [] = count_first test r []
count_with test r (x ∷ xs) = by (ranks_before r x) (count_with test r xs)
  where
    by : (b : Bool) → length (filter test (with_row r xs)) ≡ one_if (test r) + length (filter test xs)
        → length (filter test (cond b (r ∷ x ∷ xs) (x ∷ with_row r xs))) ≡ one_if (test r) + length (filter test (x ∷ xs))
    by true more = count_first test r (x ∷ xs)
    by false more = omega (arith, count_first test x (with_row r xs), count_first test x xs, more)

count_with_rows : (test : Row → Bool) (rows xs : List Row) → length (filter test (with_rows rows xs)) ≡ length (filter test rows) + length (filter test xs)
count_with_rows test [] xs = omega arith
count_with_rows test (r ∷ rows) xs = omega (arith, count_with_rows test rows (with_row r xs), count_with test r xs, count_first test r rows)

none_pass : (test : Row → Bool) (xs : List Row) → AllByRecursion (λ y. test y ≡ false) xs → length (filter test xs) ≡ 0
none_pass test [] all = refl
none_pass test (x ∷ xs) all = rw all.0 (none_pass test xs all.1)

none_before : (r : Row) (xs : List Row) → AllByRecursion (λ y. ranks_before r y ≡ true) xs → AllByRecursion (λ y. ranks_before y r ≡ false) xs
none_before r [] all = tt
none_before r (y ∷ ys) all = (not_both r y all.0, none_before r ys all.1)

slice_all : (P : Row → Type 0) (xs : List Row) (i : ℕ) (x : Row) → AllByRecursion P xs → slice_get xs i ≡ Some x → P x
slice_all P [] i x all e = absurd (cc)
slice_all P (y ∷ ys) zero x all e = subst P (ap (λ o. unwrap_or o y) e) all.0
slice_all P (y ∷ ys) (suc i) x all e = slice_all P ys i x all.1 e

-- before the row at a place come those in front of it
place_of_row : (xs : List Row) (i : ℕ) (x : Row) → Strict xs → slice_get xs i ≡ Some x → place_in xs x ≡ i
place_of_row [] i x h e = absurd (cc)
place_of_row (y ∷ ys) zero x h e =
    let same : y ≡ x = ap (λ o. unwrap_or o y) e in
    let itself : one_if (ranks_before y y) ≡ 0 = ap one_if (never_itself y) in
    let others = none_pass (λ o. ranks_before o y) ys (none_before y ys h.0) in
    let alone : place_in (y ∷ ys) y ≡ 0 = omega (arith, count_first (λ o. ranks_before o y) y ys, itself, others) in
    subst (λ z. place_in (y ∷ ys) z ≡ 0) same alone
place_of_row (y ∷ ys) (suc i) x h e =
    let first : ranks_before y x ≡ true = slice_all (λ z. ranks_before y z ≡ true) ys i x h.0 e in
    let more = place_of_row ys i x h.1 e in
    let one : one_if (ranks_before y x) ≡ 1 = ap one_if first in
    omega (arith, count_first (λ o. ranks_before o x) y ys, one, more)

-- ---- members

among_with : (r : Row) (xs : List Row) (x : Row) → Among (r ∷ xs) x → Among (with_row r xs) x
among_with r [] x m = m
among_with r (y ∷ ys) x m = by (ranks_before r y) m (among_with r ys x)
  where
    by : (b : Bool) → Among (r ∷ y ∷ ys) x → (Among (r ∷ ys) x → Among (with_row r ys) x) → Among (cond b (r ∷ y ∷ ys) (y ∷ with_row r ys)) x
    by true m more = m
    by false (inl e) more = inr (more (inl e))
    by false (inr (inl e)) more = inl e
    by false (inr (inr k)) more = inr (more (inr k))

with_among : (r : Row) (xs : List Row) (x : Row) → Among (with_row r xs) x → Among (r ∷ xs) x
with_among r [] x m = m
with_among r (y ∷ ys) x m = by (ranks_before r y) m (with_among r ys x)
  where
    by : (b : Bool) → Among (cond b (r ∷ y ∷ ys) (y ∷ with_row r ys)) x → (Among (with_row r ys) x → Among (r ∷ ys) x) → Among (r ∷ y ∷ ys) x
    by true m more = m
    by false (inl e) more = inr (inl e)
    by false (inr k) more = elim (more k) [ inl e ↦ inl e | inr n ↦ inr (inr n) ]

pub among_rows : (rows xs : List Row) (x : Row) → Among rows x ⊎ Among xs x → Among (with_rows rows xs) x
among_rows [] xs x (inl m) = absurd m
among_rows [] xs x (inr m) = m
among_rows (r ∷ rows) xs x (inl (inl e)) = among_rows rows (with_row r xs) x (inr (among_with r xs x (inl e)))
among_rows (r ∷ rows) xs x (inl (inr m)) = among_rows rows (with_row r xs) x (inl m)
among_rows (r ∷ rows) xs x (inr m) = among_rows rows (with_row r xs) x (inr (among_with r xs x (inr m)))

pub rows_among : (rows xs : List Row) (x : Row) → Among (with_rows rows xs) x → Among rows x ⊎ Among xs x
rows_among [] xs x m = inr m
rows_among (r ∷ rows) xs x m = elim (rows_among rows (with_row r xs) x m) [
  | inl k ↦ inl (inr k)
  | inr k ↦ elim (with_among r xs x k) [ inl e ↦ inl (inl e) | inr n ↦ inr n ]
]

pub among_left : (xs ys : List Row) (x : Row) → Among xs x → Among (xs ++ ys) x
among_left [] ys x m = absurd m
among_left (z ∷ xs) ys x (inl e) = inl e
among_left (z ∷ xs) ys x (inr m) = inr (among_left xs ys x m)

pub among_right : (xs ys : List Row) (x : Row) → Among ys x → Among (xs ++ ys) x
among_right [] ys x m = m
among_right (z ∷ xs) ys x m = inr (among_right xs ys x m)

pub among_parts : (xs ys : List Row) (x : Row) → Among (xs ++ ys) x → Among xs x ⊎ Among ys x
among_parts [] ys x m = inr m
among_parts (z ∷ xs) ys x (inl e) = inl (inl e)
among_parts (z ∷ xs) ys x (inr m) = elim (among_parts xs ys x m) [ inl k ↦ inl (inr k) | inr k ↦ inr k ]

pub apart_at : (xs ys : List Row) (x : Row) → Apart xs ys → Among xs x → AllByRecursion (Differs x) ys
apart_at [] ys x apart m = absurd m
apart_at (z ∷ xs) ys x apart (inl e) = subst (λ r. AllByRecursion (Differs r) ys) (sym e) apart.0
apart_at (z ∷ xs) ys x apart (inr m) = apart_at xs ys x apart.1 m

-- ---- a list in its order is told by its members

no_loop : (x y : Row) → ranks_before x y ≡ true → ranks_before y x ≡ true → ⊥
no_loop x y there back = let never = not_both x y there in cc

head_same : (x y : Row) (xs ys : List Row) → Strict (x ∷ xs) → Strict (y ∷ ys) → Among (y ∷ ys) x → Among (x ∷ xs) y → x ≡ y
head_same x y xs ys up up' (inl e) k = e
head_same x y xs ys up up' (inr m) (inl e) = sym e
head_same x y xs ys up up' (inr m) (inr k) =
    absurd (no_loop x y (all_among (λ z. ranks_before x z ≡ true) xs y up.0 k) (all_among (λ z. ranks_before y z ≡ true) ys x up'.0 m))

not_again : (x : Row) (xs : List Row) → Strict (x ∷ xs) → Among xs x → ⊥
not_again x xs up m = no_loop x x (all_among (λ z. ranks_before x z ≡ true) xs x up.0 m) (all_among (λ z. ranks_before x z ≡ true) xs x up.0 m)

pub strict_unique : (xs ys : List Row) → Strict xs → Strict ys → ((x : Row) → Among xs x → Among ys x) → ((x : Row) → Among ys x → Among xs x) → xs ≡ ys
strict_unique [] [] up up' there back = refl
strict_unique [] (y ∷ ys) up up' there back = absurd (back y (inl refl))
strict_unique (x ∷ xs) [] up up' there back = absurd (there x (inl refl))
strict_unique (x ∷ xs) (y ∷ ys) up up' there back =
    let same = head_same x y xs ys up up' (there x (inl refl)) (back y (inl refl)) in
    ap₂ ◌∷◌ same (strict_unique xs ys up.1 up'.1
    (λ z m. elim (there z (inr m)) [ inl e ↦ absurd (not_again x xs up (subst (Among xs) (e ∙ sym same) m)) | inr k ↦ k ])
    (λ z m. elim (back z (inr m)) [ inl e ↦ absurd (not_again y ys up' (subst (Among ys) (e ∙ same) m)) | inr k ↦ k ]))

place_among : (xs : List Row) (x : Row) → Among xs x → (i : ℕ) × (slice_get xs i ≡ Some x)
place_among [] x m = absurd m
place_among (y ∷ ys) x (inl e) = (0, ap Some (sym e))
place_among (y ∷ ys) x (inr m) = let there = place_among ys x m in (suc there.0, there.1)

slice_among : (xs : List Row) (i : ℕ) (x : Row) → slice_get xs i ≡ Some x → Among xs x
slice_among [] i x e = absurd (cc)
slice_among (y ∷ ys) zero x e = inl (sym (ap (λ o. unwrap_or o y) e))
slice_among (y ∷ ys) (suc i) x e = inr (slice_among ys i x e)

-- ---- the row that is found at a place

find_gives : (test : Row → Bool) (xs : List Row) (x : Row) → find test xs ≡ Some x → Among xs x × (test x ≡ true)
find_gives test [] x e = absurd (cc)
find_gives test (y ∷ ys) x e = by (test y) refl e (find_gives test ys x)
  where
    by : (b : Bool) → test y ≡ b → cond b (Some y) (find test ys) ≡ Some x → (find test ys ≡ Some x → Among ys x × (test x ≡ true))
        → Among (y ∷ ys) x × (test x ≡ true)
    by true h e more = let same : y ≡ x = ap (λ o. unwrap_or o y) e in (inl (sym same), ap test (sym same) ∙ h)
    by false h e more = let m = more e in (inr m.0, m.1)

find_misses : (test : Row → Bool) (xs : List Row) (x : Row) → find test xs ≡ None → Among xs x → test x ≡ true → ⊥
find_misses test [] x e m h = absurd m
find_misses test (y ∷ ys) x e m h = by (test y) refl e m (find_misses test ys x)
  where
    by : (b : Bool) → test y ≡ b → cond b (Some y) (find test ys) ≡ None → Among (y ∷ ys) x → (find test ys ≡ None → Among ys x → test x ≡ true → ⊥) → ⊥
    by true k e m more = absurd (cc)
    by false k e (inl s) more = let bad = sym (ap test s) in absurd (cc)
    by false k e (inr m) more = more e m h

eq_is : (m n : ℕ) → m == n ≡ true → m ≡ n
eq_is m n h = grind (arith, nat_tests)

is_eq_test : (m n : ℕ) → m ≡ n → m == n ≡ true
is_eq_test m n h = grind (arith, nat_tests)

take_nil : (k : ℕ) → take {A = Row} k [] ≡ []
take_nil zero = refl
take_nil (suc k) = refl

drop_nil : (k : ℕ) → drop {A = Row} k [] ≡ []
drop_nil zero = refl
drop_nil (suc k) = refl

module _ (rows : List Row) (distinct : Distinct rows) where
  abbrev sorted : List Row
  sorted = with_rows rows []

  strict : Strict sorted
  strict = strict_with_rows rows [] distinct (apart_none rows) tt

  same_place : (x : Row) → place_in rows x ≡ place_in sorted x
  same_place x = let c = count_with_rows (λ o. ranks_before o x) rows [] in omega (arith, c)

  here : (p : ℕ) → at_place rows p ≡ slice_get sorted p
  unfolding at_place
  here p = by (find (λ row. place_in rows row == p) rows) refl (slice_get sorted p) refl
    where
      placed : (i : ℕ) (x : Row) → slice_get sorted i ≡ Some x → place_in rows x ≡ i
      placed i x e = same_place x ∙ place_of_row sorted i x strict e

      by : (o : Option Row) → find (λ row. place_in rows row == p) rows ≡ o → (q : Option Row) → slice_get sorted p ≡ q → o ≡ q
      by None e None f = refl
      by None e (Some x) f =
          let member : Among rows x = elim (rows_among rows [] x (slice_among sorted p x f)) [ inl m ↦ m | inr m ↦ absurd m ] in
          absurd (find_misses (λ row. place_in rows row == p) rows x e member (is_eq_test _ _ (placed p x f)))
      by (Some x) e q f =
          let found = find_gives (λ row. place_in rows row == p) rows x e in
          let there = place_among sorted x (among_rows rows [] x (inl found.0)) in
          let same : there.0 ≡ p = sym (placed there.0 x there.1) ∙ eq_is _ _ found.1 in
          sym (ap (slice_get sorted) (sym same) ∙ there.1) ∙ f

  -- the first k, one place after the other
  somes : (xs : List Row) (a k : ℕ) → flat_map (λ p. option_to_list (slice_get xs p)) (range_with_len a k) ≡ take k (drop a xs)
  somes xs a zero = refl
  somes xs a (suc k) = ap (λ l. option_to_list (slice_get xs a) ++ l) (somes xs (a + 1) k) ∙ step xs a
    where
      step : (xs : List Row) (a : ℕ) → option_to_list (slice_get xs a) ++ take k (drop (a + 1) xs) ≡ take (suc k) (drop a xs)
      step [] zero = take_nil k
      step [] (suc a) = ap (take k) (drop_nil (suc a + 1)) ∙ take_nil k
      step (x ∷ xs) zero = refl
      step (x ∷ xs) (suc a) = let next : suc a + 1 ≡ suc (a + 1) = omega arith in ap (λ n. option_to_list (slice_get xs a) ++ take k (drop n (x ∷ xs))) next
          ∙ step xs a

  all_places : (a k : ℕ) → flat_map (λ p. option_to_list (at_place rows p)) (range_with_len a k)
      ≡ flat_map (λ p. option_to_list (slice_get sorted p)) (range_with_len a k)
  all_places a zero = refl
  all_places a (suc k) = ap₂ (λ o l. option_to_list o ++ l) (here a) (all_places (a + 1) k)

  pub best_are : (k : ℕ) → take k (with_rows rows []) ≡ ranked rows k
  unfolding ranked
  best_are k = sym (all_places 0 k ∙ somes sorted 0 k)

-- ---- the rows of the tables differ

same_number : (x y : ℤ) → int_cmp x y ≡ Equal → x ≡ y
same_number x y h = let ranks = int_ranked x y Equal (sym h) in ranks

equal_parts : (a b : Row) → row_cmp a b ≡ Equal → (name_cmp a.field b.field ≡ Equal) × (a.number ≡ b.number)
equal_parts a b h =
    let rest = then_equal (int_cmp b.flux a.flux) (ordering_then (name_cmp a.field b.field) (int_cmp a.number b.number)) h in
    let parts = then_equal (name_cmp a.field b.field) (int_cmp a.number b.number) rest.1 in
    (parts.0, same_number a.number b.number parts.1)

pos_same : (m n : ℕ) → pos m ≡ pos n → m ≡ n
pos_same m n e = ap unsigned_abs e

number_at : (field : List ℕ) (cells : List ℤ) (i : ℕ) → IsNumbered cells → i < rows_in cells → (ranking_row field cells i).number ≡ pos (i + 1)
unfolding ranking_row
number_at field cells i numbered h =
    let place : cells_in_row * i + 0 ≡ cells_in_row * i = omega arith in
    ap (λ k. get_or cells k (pos 0)) place ∙ get_or_from_slice_get cells (cells_in_row * i) (pos (i + 1)) (pos 0) (numbered.numbers i (omega (arith, h)))

module _ (field : List ℕ) (cells : List ℤ) (numbered : IsNumbered cells) where
  later_differ : (i a n : ℕ) → i < a → a + n ≤ rows_in cells
      → AllByRecursion (Differs (ranking_row field cells i)) (map (ranking_row field cells) (range_with_len a n))
  later_differ i a zero less fits = tt
  later_differ i a (suc n) less fits = (
    λ e. let same = sym (number_at field cells i numbered (omega (arith, less, fits)))
        ∙ (equal_parts (ranking_row field cells i) (ranking_row field cells a) e).1
        ∙ number_at field cells a numbered (omega (arith, fits)) in absurd (let bad = pos_same (i + 1) (a + 1) same in omega (arith, bad, less)),
    later_differ i (a + 1) n (omega (arith, less)) (omega (arith, fits)),
  )

  rows_from : (a n : ℕ) → a + n ≤ rows_in cells → Distinct (map (ranking_row field cells) (range_with_len a n))
  rows_from a zero fits = tt
  rows_from a (suc n) fits = (later_differ a (a + 1) n (omega arith) (omega (arith, fits)), rows_from (a + 1) n (omega (arith, fits)))

  table_rows : Distinct (rows_of (field, cells))
  unfolding rows_of
  table_rows = rows_from 0 (rows_in cells) (omega arith)

all_append : (P : Row → Type 0) (xs ys : List Row) → AllByRecursion P xs → AllByRecursion P ys → AllByRecursion P (xs ++ ys)
all_append P [] ys a b = b
all_append P (x ∷ xs) ys a b = (a.0, all_append P xs ys a.1 b)

pub distinct_append : (xs ys : List Row) → Distinct xs → Distinct ys → Apart xs ys → Distinct (xs ++ ys)
distinct_append [] ys a b apart = b
distinct_append (x ∷ xs) ys a b apart = (all_append (Differs x) xs ys a.0 apart.0, distinct_append xs ys a.1 b apart.1)

fields_from : (P : List ℕ → Type 0) (field : List ℕ) (cells : List ℤ) (a n : ℕ) → P field
    → AllByRecursion (λ r. P r.field) (map (ranking_row field cells) (range_with_len a n))
unfolding ranking_row
fields_from P field cells a zero h = tt
fields_from P field cells a (suc n) h = (h, fields_from P field cells (a + 1) n h)

fields_of : (P : List ℕ → Type 0) (t : Table) → P t.0 → AllByRecursion (λ r. P r.field) (rows_of t)
unfolding rows_of
fields_of P t h = fields_from P t.0 t.1 0 (rows_in t.1) h

all_fields : (P : List ℕ → Type 0) (ts : List Table) → AllByRecursion (λ t. P t.0) ts → AllByRecursion (λ r. P r.field) (all_rows ts)
unfolding all_rows
all_fields P [] all = tt
all_fields P (t ∷ ts) all = all_append (λ r. P r.field) (rows_of t) (all_rows ts) (fields_of P t all.0) (all_fields P ts all.1)

one_apart : (field : List ℕ) (r : Row) (ys : List Row) → r.field ≡ field → AllByRecursion (λ y. is_eq (name_cmp field y.field) ≡ false) ys
    → AllByRecursion (Differs r) ys
one_apart field r [] is all = tt
one_apart field r (y ∷ ys) is all = (
  λ e.
      let same : is_eq (name_cmp field y.field) ≡ true = ap is_eq (subst (λ f. name_cmp f y.field ≡ Equal) is (equal_parts r y e).0) in
      let other = all.0 in cc,
  one_apart field r ys is all.1,
)

fields_apart : (field : List ℕ) (xs ys : List Row) → AllByRecursion (λ r. r.field ≡ field) xs
    → AllByRecursion (λ y. is_eq (name_cmp field y.field) ≡ false) ys
    → Apart xs ys
fields_apart field [] ys a b = tt
fields_apart field (x ∷ xs) ys a b = (one_apart field x ys a.0 b, fields_apart field xs ys a.1 b)

-- of two tables of one field
abbrev pub same_field : Table → Table → Bool
same_field t u = is_eq (name_cmp t.0 u.0)

later_fields : (t : Table) (ts : List Table) → AllByRecursion (λ u. name_cmp t.0 u.0 ≡ Less) ts → AllByRecursion (λ u. same_field t u ≡ false) ts
later_fields t [] all = tt
later_fields t (u ∷ ts) all = (ap is_eq all.0, later_fields t ts all.1)

pub fields_differ : (ts : List Table) → AreInOrder ts → IsDistinct same_field ts
unfolding IsDistinct
fields_differ [] up = tt
fields_differ (t ∷ ts) up = (later_fields t ts up.0, fields_differ ts up.1)

pub all_rows_differ : (ts : List Table) → IsDistinct same_field ts → AllByRecursion IsFieldTable ts → Distinct (flat_map rows_of ts)
unfolding all_rows
all_rows_differ [] differ are = tt
all_rows_differ (t ∷ ts) differ are =
    distinct_append (rows_of t) (all_rows ts) (table_rows t.0 t.1 are.0.1) (all_rows_differ ts (IsDistinct-tail same_field t ts differ) are.1)
    (fields_apart t.0 (rows_of t) (all_rows ts) (fields_of (λ f. f ≡ t.0) t refl)
    (all_fields (λ f. is_eq (name_cmp t.0 f) ≡ false) ts (IsDistinct-head same_field t ts differ)))

pub rows_differ : (ts : List Table) → AreTables ts → Distinct (all_rows ts)
unfolding all_rows
rows_differ ts are = all_rows_differ ts (fields_differ ts are.0) are.1

pub places_are : (ts : List Table) (k : ℕ) → AreTables ts → take k (with_rows (all_rows ts) []) ≡ ranked (all_rows ts) k
places_are ts k are = best_are (all_rows ts) (rows_differ ts are) k
