-- The numbers of rows: found among the rows in order, kept in a table of a tile's own numbers, and written into the map.
use Rattle.std.proofs.Common.{◌≡◌, ℕ, ◌+◌, ◌-◌, ◌*◌, ◌<◌, ◌≤◌, ◌⊎◌, inl, inr, zero, suc, Bool, true, false, cond, ◌==◌, List, [], ◌∷◌, ◌++◌, map, length, get_or, set}
use Rattle.std.proofs.Common.{drop, refl, sym, ◌∙◌, ap, subst, arith, get_or-set_same, get_or-set_other}
use Rattle.std.specs.Prelude.{pos, Option, Some, None, slice_get, find, unwrap_or, Ok, Err, Result, MatchResult}
use Rattle.std.specs.Option.{option_map, option_to_list}
use Rattle.std.specs.Ordering.{int_eq, nat_cmp, is_lt}
use Rattle.std.specs.declared.cmp.Ordering.TheVariants.{Less, Equal, Greater}
use Rattle.std.specs.List.{enumerate_from, flat_map, position_from}
use Rattle.std.specs.List.Sorted.{IsBinarySearchResult, IsPartitionPoint, IsSearchInRange, IsSortedByKey}
use Rattle.std.proofs.lemmas.Bool.{eq-eqb, ne_eqb, le-ltb, cases_Bool, cases_lt, true≢false}
use Rattle.std.proofs.lemmas.Cmp.{ranked, nat_cmp_total}
use Rattle.std.proofs.lemmas.Option.{same_Some, none-some, slice_get_within, slice_get-map, slice_get-get_or, get_or_from_slice_get, slice_get_cases}
use Rattle.std.proofs.lemmas.List.Sorted.{searchable_from_sorted}
use Rattle.std.proofs.lemmas.List.{drop_all, drop_more, get_or_default, map_push, same_lists}
use Rattle.std.proofs.lemmas.List.Concat.{flat_map-append}
use Rattle.std.proofs.lemmas.List.FromFn.{get_or-map-range_with_len, length-map-range_with_len}
use Rattle.lemmas.proofs.Exported.{IsAmong, int_eq-true, int_eq-from, find_some}
use Rattle.comp_tree.specs.declared.shape.Shape.{Shape}
use Rattle.source_pick.specs.declared.catalogue.CatRow.{CatRow}
use Rattle.tile_laws.specs.Pieces.{first_pixel, numbered_rows, row_with_number}
use Rattle.tile_join.specs.declared.placing.PlacedRow.{PlacedRow}
use Rattle.tile_join.specs.declared.tiles.TileCatalogue.{TileCatalogue}
use Rattle.tile_join.specs.Tiles.{window_of, is_in_frame}
use Rattle.tile_join.specs.Joins.{rows_in_order, joined_number, row_of_number, in_window, number_from, number_joined_at, joined_map}
use Rattle.tile_join.specs.Places.{rows_of_placed, ArePlacedInOrder, number_among, number_named, HasTable, number_or, number_given, AreJoinedNumbers}
use Rattle.tile_join.proofs.Order.{position_at, position_nowhere}
use Rattle.tile_join.proofs.Sorted.{row_at_place}
use Rattle.tile_join.proofs.Writes.{number_or-some}

-- ---- the number of a row

module _ (whole : Shape) (placed : List PlacedRow) (order : ArePlacedInOrder whole placed) where
  -- the first pixels rise at least by one
  place_low : (i : ℕ) (a : PlacedRow) → slice_get placed i ≡ Some a → i ≤ a.first
  place_low zero a e = omega arith
  place_low (suc i) a e =
      let l : suc i < length placed = slice_get_within placed (suc i) a e in
      let d : slice_get placed i ≡ Some (get_or placed i a) = slice_get-get_or placed i a (omega arith) in
      let less : (get_or placed i a).first < a.first = order.rising i (suc i) (get_or placed i a) a (omega arith) d e in
      let low : i ≤ (get_or placed i a).first = place_low i (get_or placed i a) d in
      omega arith

  -- so there are no more rows than pixels
  pub place_below : (i : ℕ) (a : PlacedRow) → slice_get placed i ≡ Some a → i < whole.width * whole.height
  place_below i a e =
      let low : i ≤ a.first = place_low i a e in
      let high : a.first < whole.width * whole.height = order.below i a e in
      omega arith

  pub few_rows : length placed ≤ whole.width * whole.height
  few_rows = go placed refl
    where
      go : (ps : List PlacedRow) → placed ≡ ps → length placed ≤ whole.width * whole.height
      go [] e = let k : length placed ≡ 0 = ap length e in omega arith
      go (p ∷ ps) e =
          let k : length placed ≡ length ps + 1 = ap length e ∙ omega arith in
          let l : length ps < whole.width * whole.height = place_below (length ps) (get_or placed (length ps) p)
          (slice_get-get_or placed (length ps) p (omega arith)) in
          omega arith

  module _ (row : CatRow) where
    abbrev is_it : CatRow → Bool
    is_it other = first_pixel whole.width other == first_pixel whole.width row

    differs : (j : ℕ) (other : CatRow) (b : PlacedRow) → slice_get placed j ≡ Some b → b.row ≡ other → (b.first ≡ first_pixel whole.width row → ⊥)
        → is_it other ≡ false
    differs j other b e d n =
        ne_eqb (first_pixel whole.width other) (first_pixel whole.width row)
        (λ k. n (ap (λ (x : PlacedRow). x.first) (order.firsts j b e) ∙ ap (first_pixel whole.width) d ∙ k))

    pub found_number : (i : ℕ) (a : PlacedRow) → slice_get placed i ≡ Some a → a.first ≡ first_pixel whole.width row
        → number_among whole.width (rows_of_placed placed) row ≡ i + 1
    unfolding number_among
    found_number i a e k =
        ap (λ (o : Option ℕ). unwrap_or o 0)
        (position_at is_it (rows_of_placed placed) 1 i a.row (slice_get-map (λ (b : PlacedRow). b.row) placed i ∙ ap (option_map (λ (b : PlacedRow). b.row)) e)
        (eq-eqb (first_pixel whole.width a.row) (first_pixel whole.width row) (sym (ap (λ (x : PlacedRow). x.first) (order.firsts i a e)) ∙ k))
        (λ j other l g. let b = row_at_place placed j other g in
        let less : (b.0).first < a.first = order.rising j i b.0 a l b.1 e in
        differs j other b.0 b.1 b.2 (λ m. absurd (omega arith))))

    pub lost_number : ((i : ℕ) (a : PlacedRow) → slice_get placed i ≡ Some a → a.first ≡ first_pixel whole.width row → ⊥)
        → number_among whole.width (rows_of_placed placed) row ≡ 0
    unfolding number_among
    lost_number n =
        ap (λ (o : Option ℕ). unwrap_or o 0)
        (position_nowhere is_it (rows_of_placed placed) 1
        (λ j other g. let b = row_at_place placed j other g in differs j other b.0 b.1 b.2 (n j b.0 b.1)))

    -- what a binary search finds
    not_less : (m n : ℕ) → n < m → is_lt (nat_cmp m n) ≡ false
    not_less m n l = rw (le-ltb m n (omega arith), ne_eqb m n (λ e. absurd (omega arith))) refl

    in_sequence : IsSortedByKey (λ (b : PlacedRow). b.first) nat_cmp placed
    in_sequence k d low l =
        not_less (get_or placed (k + 1) d).first (get_or placed k d).first
        (order.rising k (k + 1) (get_or placed k d) (get_or placed (k + 1) d) (omega arith) (slice_get-get_or placed k d (omega arith))
        (slice_get-get_or placed (k + 1) d l))

    ranked_less : (m n : ℕ) → nat_cmp m n ≡ Less → m < n
    ranked_less m n e = ranked m n Less (sym e)

    ranked_equal : (m n : ℕ) → nat_cmp m n ≡ Equal → m ≡ n
    ranked_equal m n e = ranked m n Equal (sym e)

    ranked_greater : (m n : ℕ) → nat_cmp m n ≡ Greater → n < m
    ranked_greater m n e = ranked m n Greater (sym e)

    pub searched_number : (r : Result ℕ ℕ) → IsBinarySearchResult (λ (b : PlacedRow). nat_cmp b.first (first_pixel whole.width row)) placed r
        → IsSearchInRange r (length placed)
        → MatchResult r (λ i. number_among whole.width (rows_of_placed placed) row ≡ i + 1) (λ i. number_among whole.width (rows_of_placed placed) row ≡ 0)
    searched_number (Ok i) h l = go (slice_get_cases placed i).1
      where
        go : ((x : PlacedRow) × (i < length placed) × (slice_get placed i ≡ Some x) × (get_or placed i x ≡ x))
            ⊎ ((length placed ≤ i) × (slice_get placed i ≡ None))
            → number_among whole.width (rows_of_placed placed) row ≡ i + 1
        go (inl x) =
            found_number i x.0 x.2 (ap (λ (b : PlacedRow). b.first) (sym x.3)
            ∙ ranked_equal (get_or placed i x.0).first (first_pixel whole.width row) (h x.0))
        go (inr x) = let k : length placed ≤ i = x.0 in absurd (omega arith)
    searched_number (Err i) h l = lost_number (λ j a e k. go j a e k (cases_lt j i))
      where
        parts : IsPartitionPoint (λ (b : PlacedRow). nat_cmp b.first (first_pixel whole.width row) ≡ Less)
            (λ (b : PlacedRow). nat_cmp b.first (first_pixel whole.width row) ≡ Greater) placed i
        parts = h (searchable_from_sorted nat_cmp_total (λ (b : PlacedRow). b.first) placed (first_pixel whole.width row) in_sequence)

        go : (j : ℕ) (a : PlacedRow) → slice_get placed j ≡ Some a → a.first ≡ first_pixel whole.width row → (j < i) ⊎ (i ≤ j) → ⊥
        go j a e k (inl m) =
            let g : get_or placed j a ≡ a = get_or_from_slice_get placed j a a e in
            let n : (get_or placed j a).first < first_pixel whole.width row =
            ranked_less (get_or placed j a).first (first_pixel whole.width row) (parts.0 j a (omega arith) m) in
            let same : (get_or placed j a).first ≡ a.first = ap (λ (b : PlacedRow). b.first) g in
            absurd (omega arith)
        go j a e k (inr m) =
            let g : get_or placed j a ≡ a = get_or_from_slice_get placed j a a e in
            let n : first_pixel whole.width row < (get_or placed j a).first =
            ranked_greater (get_or placed j a).first (first_pixel whole.width row) (parts.1 j a m (slice_get_within placed j a e)) in
            let same : (get_or placed j a).first ≡ a.first = ap (λ (b : PlacedRow). b.first) g in
            absurd (omega arith)

-- a row that is among them has a number
number_some : (width : ℕ) (rows : List CatRow) (row : CatRow) → IsAmong row rows → 0 < number_among width rows row
unfolding number_among
number_some width rows row m = go 1 rows (omega arith) m
  where
    go : (k : ℕ) (rs : List CatRow) → 0 < k → IsAmong row rs
        → 0 < unwrap_or (position_from (λ other. first_pixel width other == first_pixel width row) k rs) 0
    go k [] l m = absurd m
    go k (r ∷ rs) l m = here (first_pixel width r == first_pixel width row) refl m (go (k + 1) rs (omega arith))
      where
        here : (t : Bool) → (first_pixel width r == first_pixel width row) ≡ t → IsAmong row (r ∷ rs)
            → (IsAmong row rs → 0 < unwrap_or (position_from (λ other. first_pixel width other == first_pixel width row) (k + 1) rs) 0)
            → 0 < unwrap_or (cond t (Some k) (position_from (λ other. first_pixel width other == first_pixel width row) (k + 1) rs)) 0
        here true e n rest = l
        here false e (inl d) rest =
            absurd (true≢false (sym (eq-eqb (first_pixel width r) (first_pixel width row) (ap (first_pixel width) d)) ∙ e))
        here false e (inr n) rest = rest n

-- ---- the table of a tile's own numbers

pub named_none : (width : ℕ) (rows : List CatRow) (n : ℕ) → number_named width rows [] n ≡ 0
unfolding number_named
named_none width rows n = refl

named_more : (width : ℕ) (rows : List CatRow) (row : CatRow) (own : List CatRow) (n : ℕ)
    → number_named width rows (row ∷ own) n ≡ cond (int_eq row.number (pos n)) (number_among width rows row) (number_named width rows own n)
unfolding number_named
named_more width rows row own n = go (int_eq row.number (pos n))
  where
    go : (t : Bool) → unwrap_or (option_map (number_among width rows) (cond t (Some row) (find (λ r. int_eq r.number (pos n)) own))) 0
        ≡ cond t (number_among width rows row) (unwrap_or (option_map (number_among width rows) (find (λ r. int_eq r.number (pos n)) own)) 0)
    go true = refl
    go false = refl

-- one row more, whose number is written
pub table_more : (width : ℕ) (rows : List CatRow) (row : CatRow) (own : List CatRow) (at number : ℕ) (table : List ℕ)
    → ((n : ℕ) → get_or table n 0 ≡ number_named width rows own n) → row.number ≡ pos at → at < length table → number ≡ number_among width rows row
    → (n : ℕ) → get_or (set table at number) n 0 ≡ number_named width rows (row ∷ own) n
table_more width rows row own at number table h d l e n = go (cases_Bool (int_eq row.number (pos n)))
  where
    pos_same : (a b : ℕ) → pos a ≡ pos b → a ≡ b
    pos_same a b k = cc

    go : (int_eq row.number (pos n) ≡ true) ⊎ (int_eq row.number (pos n) ≡ false) → get_or (set table at number) n 0 ≡ number_named width rows (row ∷ own) n
    go (inl t) =
        let same : n ≡ at = pos_same n at (sym (int_eq-true row.number (pos n) t) ∙ d) in
        ap (λ (m : ℕ). get_or (set table at number) m 0) same ∙ get_or-set_same table at number 0 l ∙ e
        ∙ sym (named_more width rows row own n ∙ ap (λ (b : Bool). cond b (number_among width rows row) (number_named width rows own n)) t)
    go (inr t) =
        get_or-set_other table at n number 0
        (λ same. absurd (true≢false (sym (int_eq-from row.number (pos n) (d ∙ ap pos (sym same))) ∙ t)))
        ∙ h n
        ∙ sym (named_more width rows row own n ∙ ap (λ (b : Bool). cond b (number_among width rows row) (number_named width rows own n)) t)

-- before the last row, and after the first one
pub table_none : (width : ℕ) (rows own : List CatRow) (k : ℕ) (table : List ℕ) → ((n : ℕ) → get_or table n 0 ≡ 0) → length own ≤ k
    → (n : ℕ) → get_or table n 0 ≡ number_named width rows (drop k own) n
table_none width rows own k table z l n =
    z n ∙ sym (named_none width rows n) ∙ ap (λ (rs : List CatRow). number_named width rows rs n) (sym (drop_all k own l))

pub table_next : (width : ℕ) (rows own : List CatRow) (k : ℕ) (row : CatRow) (at number : ℕ) (table : List ℕ) → 0 < k
    → ((n : ℕ) → get_or table n 0 ≡ number_named width rows (drop k own) n) → slice_get own (k - 1) ≡ Some row → row.number ≡ pos at
    → at < length table → number ≡ number_among width rows row
    → (n : ℕ) → get_or (set table at number) n 0 ≡ number_named width rows (drop (k - 1) own) n
table_next width rows own k row at number table some h g d l e n =
    table_more width rows row (drop k own) at number table h d l e n ∙ ap (λ (rs : List CatRow). number_named width rows rs n) (sym front)
  where
    next : k - 1 + 1 ≡ k
    next = omega arith

    front : drop (k - 1) own ≡ row ∷ drop k own
    front =
        drop_more own (k - 1) row (slice_get_within own (k - 1) row g)
        ∙ ap (λ (r : CatRow). r ∷ drop (k - 1 + 1) own) (get_or_from_slice_get own (k - 1) row row g)
        ∙ ap (λ (m : ℕ). row ∷ drop m own) next

-- ---- what a tile gives

option_number : (o : Option ℕ) → get_or (option_to_list o) 0 0 ≡ unwrap_or o 0
option_number None = refl
option_number (Some n) = refl

named_is : (whole : Shape) (tiles : List TileCatalogue) (t : TileCatalogue) (n : ℕ)
    → number_named whole.width (rows_in_order whole tiles) t.rows.items n ≡ unwrap_or (option_map (joined_number whole tiles) (row_of_number t n)) 0
unfolding number_named number_among joined_number row_of_number
named_is whole tiles t n = go (find (λ row. int_eq row.number (pos n)) t.rows.items)
  where
    go : (o : Option CatRow) → unwrap_or (option_map (number_among whole.width (rows_in_order whole tiles)) o) 0
        ≡ unwrap_or (option_map (joined_number whole tiles) o) 0
    go None = refl
    go (Some row) = refl

given_is : (whole : Shape) (tiles : List TileCatalogue) (t : TileCatalogue) (table : List ℕ) (p : ℕ)
    → HasTable whole.width (rows_in_order whole tiles) t table
    → number_given whole.width t table p ≡ get_or (option_to_list (number_from whole tiles t p)) 0 0
unfolding number_given number_from
given_is whole tiles t table p h = go (is_in_frame whole.width t.window p)
  where
    own : ℕ
    own = get_or t.map.items (in_window whole.width (window_of t.window) p) 0

    go : (b : Bool) → cond b (get_or table own 0) 0
        ≡ get_or (option_to_list (cond b (option_map (joined_number whole tiles) (row_of_number t own)) None)) 0 0
    go true = h own ∙ named_is whole tiles t own ∙ sym (option_number (option_map (joined_number whole tiles) (row_of_number t own)))
    go false = refl

-- what is given is a number from 1 on
abbrev pub HasRowsAmong : List CatRow → TileCatalogue → Type 0
HasRowsAmong rows t = (row : CatRow) → IsAmong row t.rows.items → IsAmong row rows

given_some : (whole : Shape) (tiles : List TileCatalogue) (t : TileCatalogue) (p n : ℕ) → HasRowsAmong (rows_in_order whole tiles) t
    → number_from whole tiles t p ≡ Some n → 0 < n
unfolding number_from row_of_number joined_number number_among
given_some whole tiles t p n h e = go (is_in_frame whole.width t.window p) e
  where
    own : ℕ
    own = get_or t.map.items (in_window whole.width (window_of t.window) p) 0

    by_row : (o : Option CatRow) → find (λ row. int_eq row.number (pos own)) t.rows.items ≡ o → option_map (joined_number whole tiles) o ≡ Some n → 0 < n
    by_row None d k = absurd (none-some n k)
    by_row (Some row) d k =
        let m = find_some (λ row. int_eq row.number (pos own)) t.rows.items row d in
        subst (λ (x : ℕ). 0 < x) (same_Some (joined_number whole tiles row) n k) (number_some whole.width (rows_in_order whole tiles) row (h row m.0))

    go : (b : Bool) → cond b (option_map (joined_number whole tiles) (find (λ row. int_eq row.number (pos own)) t.rows.items)) None ≡ Some n → 0 < n
    go true k = by_row (find (λ row. int_eq row.number (pos own)) t.rows.items) refl k
    go false k = absurd (none-some n k)

-- ---- the map

-- numbers from 1 on, followed by others
first_or : (xs ys : List ℕ) → (get_or xs 0 0 ≡ 0 → xs ≡ []) → get_or (xs ++ ys) 0 0 ≡ number_or (get_or xs 0 0) (get_or ys 0 0)
first_or [] ys h = refl
first_or (zero ∷ xs) ys h = absurd (no_list (h refl))
  where
    no_list : {x : ℕ} {zs : List ℕ} → x ∷ zs ≡ [] → ⊥
    no_list e = cc
first_or (suc x ∷ xs) ys h = sym (number_or-some (suc x) (get_or ys 0 0) (λ e. absurd (omega arith)))

module _ (whole : Shape) (tiles : List TileCatalogue) where
  abbrev given_by : ℕ → List TileCatalogue → List ℕ
  given_by p front = flat_map (λ t. option_to_list (number_from whole tiles t p)) front

  given_nonzero : (p : ℕ) (front : List TileCatalogue) → ((t : TileCatalogue) → IsAmong t front → HasRowsAmong (rows_in_order whole tiles) t)
      → get_or (given_by p front) 0 0 ≡ 0 → given_by p front ≡ []
  given_nonzero p [] h e = refl
  given_nonzero p (t ∷ front) h e = go (number_from whole tiles t p) (λ n k. given_some whole tiles t p n (h t (inl refl)) k)
      (given_nonzero p front (λ u m. h u (inr m))) e
    where
      go : (o : Option ℕ) → ((n : ℕ) → o ≡ Some n → 0 < n) → (get_or (given_by p front) 0 0 ≡ 0 → given_by p front ≡ [])
          → get_or (option_to_list o ++ given_by p front) 0 0 ≡ 0 → option_to_list o ++ given_by p front ≡ []
      go None some rest e = rest e
      go (Some n) some rest e = let l : 0 < n = some n refl in absurd (omega arith)

  pub numbers_none : (map : List ℕ) → ((p : ℕ) → get_or map p 0 ≡ 0) → AreJoinedNumbers whole tiles [] map
  numbers_none map z = λ p l. z p

  -- one tile more
  pub numbers_more : (front : List TileCatalogue) (t : TileCatalogue) (table old new : List ℕ)
      → ((u : TileCatalogue) → IsAmong u front → HasRowsAmong (rows_in_order whole tiles) u)
      → HasTable whole.width (rows_in_order whole tiles) t table
      → ((p : ℕ) → get_or new p 0 ≡ number_or (get_or old p 0) (number_given whole.width t table p))
      → AreJoinedNumbers whole tiles front old → AreJoinedNumbers whole tiles (front ++ t ∷ []) new
  numbers_more front t table old new among has written h = λ p l.
      written p
      ∙ ap (λ (n : ℕ). number_or n (number_given whole.width t table p)) (h p l)
      ∙ ap (λ (n : ℕ). number_or (get_or (given_by p front) 0 0) n) (given_is whole tiles t table p has ∙ one p)
      ∙ sym (first_or (given_by p front) (given_by p (t ∷ [])) (given_nonzero p front among))
      ∙ ap (λ (ns : List ℕ). get_or ns 0 0) (sym (flat_map-append (λ u. option_to_list (number_from whole tiles u p)) front (t ∷ [])))
    where
      one : (p : ℕ) → get_or (option_to_list (number_from whole tiles t p)) 0 0 ≡ get_or (given_by p (t ∷ [])) 0 0
      one p = go (number_from whole tiles t p)
        where
          go : (o : Option ℕ) → get_or (option_to_list o) 0 0 ≡ get_or (option_to_list o ++ []) 0 0
          go None = refl
          go (Some n) = refl

  -- when all tiles were
  pub numbers_all : (map : List ℕ) → length map ≡ whole.width * whole.height → AreJoinedNumbers whole tiles tiles map → map ≡ joined_map whole tiles
  unfolding joined_map number_joined_at
  numbers_all numbers e h =
      same_lists numbers (joined_map whole tiles) (e ∙ sym (length-map-range_with_len (number_joined_at whole tiles) 0 (whole.width * whole.height)))
      (λ k d l. get_or_default numbers k d 0 l ∙ h k (omega arith)
      ∙ sym (get_or-map-range_with_len (number_joined_at whole tiles) 0 (whole.width * whole.height) k k d (omega arith) (omega arith)))

-- ---- rows that are numbered

enumerate_push : {X : Type 0} (k : ℕ) (xs : List X) (x : X) → enumerate_from k (xs ++ x ∷ []) ≡ enumerate_from k xs ++ (k + length xs, x) ∷ []
enumerate_push {X} k [] x = ap (λ (n : ℕ). (n, x) ∷ []) (omega arith)
enumerate_push {X} k (y ∷ xs) x =
    ap (λ (es : List (ℕ × X)). (k, y) ∷ es)
    (enumerate_push (k + 1) xs x ∙ ap (λ (n : ℕ). enumerate_from (k + 1) xs ++ (n, x) ∷ []) (omega arith))

pub numbered_none : numbered_rows [] ≡ []
unfolding numbered_rows
numbered_none = refl

pub numbered_more : (rows : List CatRow) (row : CatRow) (number : ℕ) → number ≡ length rows + 1
    → numbered_rows (rows ++ row ∷ []) ≡ numbered_rows rows ++ row_with_number number row ∷ []
unfolding numbered_rows
numbered_more rows row number e =
    ap (map (λ f. row_with_number f.0 f.1)) (enumerate_push 1 rows row)
    ∙ map_push (λ f. row_with_number f.0 f.1) (enumerate_from 1 rows) (1 + length rows, row)
    ∙ ap (λ (n : ℕ). map (λ f. row_with_number f.0 f.1) (enumerate_from 1 rows) ++ row_with_number n row ∷ []) (omega arith)
