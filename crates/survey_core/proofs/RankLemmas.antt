-- Rows in their order, one put in after the other.
use Rattle.std.proofs.Common.{◌≡◌, ◌∙◌, ℕ, zero, suc, ◌<◌, ◌≤◌, Bool, true, false, cond, List, [], ◌∷◌, ◌++◌, length, take, get_or}
use Rattle.std.proofs.Common.{refl, sym, ap, arith, Ordering, Less, Equal, Greater, zero-add, ℤ}
use Rattle.std.specs.List.{AllByRecursion}
use Rattle.std.specs.Ordering.{ordering_reverse, is_lt}
use Rattle.std.specs.Cmp.{IsTotalOrder}
use Rattle.std.proofs.lemmas.List.FromFn.{get_or-map-range_with_len, length-map-range_with_len}
use Rattle.survey_core.specs.declared.ranking.Row.{Row}
use Rattle.survey_core.specs.Ranking.{row_cmp, ranks_before, ranking_row, rows_of}
use Rattle.survey_core.specs.Listings.{rows_in}
use Rattle.survey_core.specs.Ranks.{row_order, with_row, with_rows}

-- ---- the order

pub order : IsTotalOrder row_cmp
order = row_order

is_less : (o : Ordering) → is_lt o ≡ true → o ≡ Less
is_less Less h = refl
is_less Equal h = absurd (cc)
is_less Greater h = absurd (cc)

-- what comes before one comes before all that don't come before that one
pub before_later : (a b d : Row) → ranks_before a b ≡ true → ranks_before d b ≡ false → ranks_before a d ≡ true
before_later a b d h k = by (row_cmp b d) refl
  where
    ab : row_cmp a b ≡ Less
    ab = is_less (row_cmp a b) h

    by : (o : Ordering) → row_cmp b d ≡ o → ranks_before a d ≡ true
    by Less e = ap is_lt (order.trans a b d ab e)
    by Equal e = ap is_lt (order.antisymm a d ∙ ap ordering_reverse (sym (order.congr b d a e) ∙ order.antisymm b a ∙ ap ordering_reverse ab))
    by Greater e = let db : row_cmp d b ≡ Less = order.antisymm d b ∙ ap ordering_reverse e in absurd (let bad = ap is_lt db in cc)

pub not_both : (a b : Row) → ranks_before a b ≡ true → ranks_before b a ≡ false
not_both a b h = ap is_lt (order.antisymm b a ∙ ap ordering_reverse (is_less (row_cmp a b) h))

pub never_itself : (a : Row) → ranks_before a a ≡ false
never_itself a = by (ranks_before a a) refl
  where
    by : (b : Bool) → ranks_before a a ≡ b → ranks_before a a ≡ false
    by true e = not_both a a e
    by false e = e

-- ---- one row more

pub all_with : (P : Row → Type 0) (r : Row) (xs : List Row) → P r → AllByRecursion P xs → AllByRecursion P (with_row r xs)
all_with P r [] h all = (h, tt)
all_with P r (x ∷ xs) h all = by (ranks_before r x) (all_with P r xs h all.1)
  where
    by : (b : Bool) → AllByRecursion P (with_row r xs) → AllByRecursion P (cond b (r ∷ x ∷ xs) (x ∷ with_row r xs))
    by true more = (h, all)
    by false more = (all.0, more)

take_again : (m : ℕ) (x : Row) (xs : List Row) → take m (x ∷ xs) ≡ take m (x ∷ take m xs)
take_again zero x xs = refl
take_again (suc zero) x xs = refl
take_again (suc (suc m)) x xs = ap (λ l. x ∷ l) (go (suc m) xs)
  where
    go : (n : ℕ) (ys : List Row) → take n ys ≡ take n (take (suc n) ys)
    go zero ys = refl
    go (suc n) [] = refl
    go (suc n) (y ∷ ys) = ap (λ l. y ∷ l) (go n ys)

-- of the best the row's place decides
pub best_with : (m : ℕ) (r : Row) (xs : List Row) → take m (with_row r xs) ≡ take m (with_row r (take m xs))
best_with zero r xs = refl
best_with (suc m) r [] = refl
best_with (suc m) r (x ∷ xs) = by (ranks_before r x) (best_with m r xs)
  where
    by : (b : Bool) → take m (with_row r xs) ≡ take m (with_row r (take m xs))
        → take (suc m) (cond b (r ∷ x ∷ xs) (x ∷ with_row r xs)) ≡ take (suc m) (cond b (r ∷ x ∷ take m xs) (x ∷ with_row r (take m xs)))
    by true more = ap (λ l. r ∷ l) (take_again m x xs)
    by false more = ap (λ l. x ∷ l) more

pub take_front : {X : Type 0} (m : ℕ) (xs ys : List X) → m ≤ length xs → take m (xs ++ ys) ≡ take m xs
take_front zero xs ys h = refl
take_front (suc m) [] ys h = absurd (omega arith)
take_front (suc m) (x ∷ xs) ys h = ap (λ l. x ∷ l) (take_front m xs ys (omega arith))

-- ---- more rows

pub with_rows-append : (xs1 xs2 xs : List Row) → with_rows (xs1 ++ xs2) xs ≡ with_rows xs2 (with_rows xs1 xs)
with_rows-append [] xs2 xs = refl
with_rows-append (a ∷ xs1) xs2 xs = with_rows-append xs1 xs2 (with_row a xs)

pub rows_long : (field : List ℕ) (cells : List ℤ) → length (rows_of (field, cells)) ≡ rows_in cells
unfolding rows_of
rows_long field cells = length-map-range_with_len (ranking_row field cells) 0 (rows_in cells)

pub row_at : (field : List ℕ) (cells : List ℤ) (i : ℕ) (d : Row) → i < rows_in cells → ranking_row field cells i ≡ get_or (rows_of (field, cells)) i d
unfolding rows_of
row_at field cells i d h = sym (get_or-map-range_with_len (ranking_row field cells) 0 (rows_in cells) i i d h (zero-add i))
