-- The rows of all tiles with their first pixels, in the order of these: what one pixel twice says of them, and that else they are the model's.
use Rattle.std.proofs.Common.{inl, inr, zero, suc, cond, ◌≡◌, ℕ, ◌+◌, ◌*◌, ◌<◌, ◌≤◌, ◌==◌, List, [], ◌∷◌, map, All, IsPermutation, refl, sym, ◌∙◌, ap, subst, arith}
use Rattle.std.specs.Prelude.{IsTrue, Some, slice_get}
use Rattle.std.specs.Option.{option_map}
use Rattle.std.specs.List.{range_with_len}
use Rattle.std.proofs.lemmas.Bool.{eq-eqb, eqb-true}
use Rattle.std.proofs.lemmas.Option.{slice_get_within, get_or_from_slice_get, slice_get-map, same_Some}
use Rattle.std.proofs.lemmas.List.Sorted.{All-permutation, Contains-permutation, IsPermutation-map, IsPermutation-sym, sum_by-IsPermutation}
use Rattle.lemmas.proofs.Exported.{IsAmong, IsRisingBy, among_get, among_of, contains_from_among, among_from_filter, among-flat_map, among-filter, among-range}
use Rattle.lemmas.proofs.Exported.{all_from_among}
use Rattle.comp_tree.specs.declared.shape.Shape.{Shape}
use Rattle.source_pick.specs.declared.catalogue.CatRow.{CatRow}
use Rattle.tile_laws.specs.Pieces.{first_pixel}
use Rattle.tile_laws.proofs.Exported.{get_among, rising_equal}
use Rattle.tile_join.specs.declared.placing.PlacedRow.{PlacedRow}
use Rattle.tile_join.specs.declared.tiles.TileCatalogue.{TileCatalogue}
use Rattle.tile_join.specs.Tiles.{rows_of_tiles, IsFirstOfTwo}
use Rattle.tile_join.specs.Joins.{rows_first_at, rows_in_order}
use Rattle.tile_join.specs.Places.{HaveFirstsIn, placed_row, rows_of_placed, AreFirstsRising, ArePlacedInOrder, IsFirstTwice, AreFirstsDistinct}
use Rattle.tile_join.proofs.Firsts.{first_below}
use Rattle.tile_join.proofs.Order.{rising_from_places, rising_made, rising_at, IsMadeFrom, made_from, count_at, two_counted, HasTwoAt, two_from_count}

rows-placed : (width : ℕ) (rows : List CatRow) → rows_of_placed (map (placed_row width) rows) ≡ rows
rows-placed width [] = refl
rows-placed width (row ∷ rows) = ap (λ (rs : List CatRow). row ∷ rs) (rows-placed width rows)

-- the row at a place of the placed rows
pub row_at_place : (placed : List PlacedRow) (i : ℕ) (row : CatRow) → slice_get (rows_of_placed placed) i ≡ Some row
    → (a : PlacedRow) × (slice_get placed i ≡ Some a) × (a.row ≡ row)
row_at_place [] i row e = absurd (go e)
  where
    go : slice_get {X = CatRow} [] i ≡ Some row → ⊥
    go e = cc
row_at_place (a ∷ placed) zero row e = (a, refl, same_Some a.row row e)
row_at_place (a ∷ placed) (suc i) row e = row_at_place placed i row e

-- ---- the model's rows

module _ (whole : Shape) (tiles : List TileCatalogue) where
  at_parts : (p : ℕ) (row : CatRow) → IsAmong row (rows_first_at whole.width tiles p)
      → IsAmong row (rows_of_tiles tiles) × IsTrue (first_pixel whole.width row == p)
  unfolding rows_first_at
  at_parts p row m = among_from_filter (λ r. first_pixel whole.width r == p) row (rows_of_tiles tiles) m

  -- they rise where no two have the same first pixel
  rising_model : AreFirstsDistinct whole.width (rows_of_tiles tiles) → IsRisingBy (first_pixel whole.width) (rows_in_order whole tiles)
  unfolding rows_in_order rows_first_at
  rising_model distinct =
      rising_made (first_pixel whole.width) (rows_first_at whole.width tiles) 0 (whole.width * whole.height)
      (λ p row m. eqb-true (first_pixel whole.width row) p (at_parts p row m).1)
      (λ p. rising_at (first_pixel whole.width) p (rows_of_tiles tiles) distinct)

  -- and are those of all tiles
  pub among_model : HaveFirstsIn whole (rows_of_tiles tiles) → (row : CatRow) → IsAmong row (rows_of_tiles tiles) → IsAmong row (rows_in_order whole tiles)
  unfolding rows_in_order rows_first_at
  among_model firsts row m =
      let k : (j : ℕ) × (slice_get (rows_of_tiles tiles) j ≡ Some row) = among_get row (rows_of_tiles tiles) m in
      let l : first_pixel whole.width row < whole.width * whole.height = first_below whole row (firsts k.0 row k.1) in
      among-flat_map (rows_first_at whole.width tiles) (first_pixel whole.width row) row (range_with_len 0 (whole.width * whole.height))
      (among-range 0 (whole.width * whole.height) (first_pixel whole.width row) (omega arith) (omega arith))
      (among-filter (λ r. first_pixel whole.width r == first_pixel whole.width row) row (rows_of_tiles tiles) m
      (eq-eqb (first_pixel whole.width row) (first_pixel whole.width row) refl))

  among_from_model : (row : CatRow) → IsAmong row (rows_in_order whole tiles) → IsAmong row (rows_of_tiles tiles)
  unfolding rows_in_order
  among_from_model row m =
      let w : IsMadeFrom (rows_first_at whole.width tiles) (range_with_len 0 (whole.width * whole.height)) row =
      made_from (rows_first_at whole.width tiles) (range_with_len 0 (whole.width * whole.height)) row m in
      (at_parts w.it row w.among).0

-- the rows of each tile are among them
pub tile_among_model : (whole : Shape) (tiles : List TileCatalogue) (t : TileCatalogue) → HaveFirstsIn whole (rows_of_tiles tiles) → IsAmong t tiles
    → (row : CatRow) → IsAmong row t.rows.items → IsAmong row (rows_in_order whole tiles)
tile_among_model whole tiles t firsts m row k =
    among_model whole tiles firsts row (among-flat_map (λ (u : TileCatalogue). u.rows.items) t row tiles m k)

-- ---- the placed rows

module _ (whole : Shape) (tiles : List TileCatalogue) (placed : List PlacedRow) (firsts : HaveFirstsIn whole (rows_of_tiles tiles))
    (perm : IsPermutation (map (placed_row whole.width) (rows_of_tiles tiles)) placed) where
  abbrev rows : List CatRow
  rows = rows_of_tiles tiles

  -- the rows alone are those of all tiles, in another order
  same_rows : IsPermutation rows (rows_of_placed placed)
  same_rows =
      subst (λ (rs : List CatRow). IsPermutation rs (rows_of_placed placed)) (rows-placed whole.width rows)
      (IsPermutation-map (λ (a : PlacedRow). a.row) (map (placed_row whole.width) rows) placed perm)

  among_there : (row : CatRow) → IsAmong row rows → IsAmong row (rows_of_placed placed)
  among_there row m =
      among_of row (rows_of_placed placed) (Contains-permutation rows (rows_of_placed placed) row same_rows (contains_from_among row rows m))

  among_back : (row : CatRow) → IsAmong row (rows_of_placed placed) → IsAmong row rows
  among_back row m =
      among_of row rows (Contains-permutation (rows_of_placed placed) rows row (IsPermutation-sym rows (rows_of_placed placed) same_rows)
      (contains_from_among row (rows_of_placed placed) m))

  same_count : (p : ℕ) → count_at (first_pixel whole.width) p (rows_of_placed placed) ≡ count_at (first_pixel whole.width) p rows
  same_count p = sum_by-IsPermutation (λ row. cond (first_pixel whole.width row == p) 1 0) rows (rows_of_placed placed) same_rows

  -- each has its first pixel beside it
  first_beside : (i : ℕ) (a : PlacedRow) → slice_get placed i ≡ Some a → a ≡ placed_row whole.width a.row
  first_beside i a e =
      subst (λ (b : PlacedRow). b ≡ placed_row whole.width b.row) (get_or_from_slice_get placed i a a e)
      (all i a (slice_get_within placed i a e))
    where
      each : (bs : List CatRow) → (b : PlacedRow) → IsAmong b (map (placed_row whole.width) bs) → b ≡ placed_row whole.width b.row
      each [] b m = absurd m
      each (r ∷ bs) b (inl d) = subst (λ (x : PlacedRow). x ≡ placed_row whole.width x.row) d refl
      each (r ∷ bs) b (inr m) = each bs b m

      all : All (λ (b : PlacedRow). b ≡ placed_row whole.width b.row) placed
      all = All-permutation (λ (b : PlacedRow). b ≡ placed_row whole.width b.row) (map (placed_row whole.width) rows) placed perm
          (all_from_among (λ (b : PlacedRow). b ≡ placed_row whole.width b.row) (map (placed_row whole.width) rows) (each rows))

  row_get : (i : ℕ) (a : PlacedRow) → slice_get placed i ≡ Some a → slice_get (rows_of_placed placed) i ≡ Some a.row
  row_get i a e = slice_get-map (λ (b : PlacedRow). b.row) placed i ∙ ap (option_map (λ (b : PlacedRow). b.row)) e

  first_is : (i : ℕ) (a : PlacedRow) → slice_get placed i ≡ Some a → first_pixel whole.width a.row ≡ a.first
  first_is i a e = sym (ap (λ (b : PlacedRow). b.first) (first_beside i a e))

  -- a pixel that comes twice among them is the first one of two rows
  pub clash_is_two : (p : ℕ) → IsFirstTwice placed p → IsFirstOfTwo whole.width rows p
  clash_is_two p k =
      let c : 2 ≤ count_at (first_pixel whole.width) p (rows_of_placed placed) =
      two_counted (first_pixel whole.width) p (rows_of_placed placed) k.it (k.it + 1) k.one.row k.next.row (omega arith) (row_get k.it k.one k.at)
      (row_get (k.it + 1) k.next k.next_at) (first_is k.it k.one k.at ∙ k.first) (first_is (k.it + 1) k.next k.next_at ∙ k.next_first) in
      let w : HasTwoAt (first_pixel whole.width) p rows = two_from_count (first_pixel whole.width) p rows
      (subst (λ (n : ℕ). 2 ≤ n) (same_count p) c) in
      record {
        one = w.one;
        other = w.other;
        row = w.member;
        other_row = w.other_member;
        apart = w.less;
        at = w.at;
        other_at = w.other_at;
        first = w.number;
        other_first = w.other_number;
      }

  module _ (rising : AreFirstsRising placed) where
    -- they are in order
    pub in_order : ArePlacedInOrder whole placed
    in_order = record { firsts = first_beside; below = below; rising = rising }
      where
        below : (i : ℕ) (a : PlacedRow) → slice_get placed i ≡ Some a → a.first < whole.width * whole.height
        below i a e =
            let k : (j : ℕ) × (slice_get rows j ≡ Some a.row) = among_get a.row rows (among_back a.row (get_among a.row (rows_of_placed placed) i (row_get i a e))) in
            subst (λ (n : ℕ). n < whole.width * whole.height) (first_is i a e) (first_below whole a.row (firsts k.0 a.row k.1))

    -- so no two rows have the same first pixel
    pub firsts_distinct : AreFirstsDistinct whole.width rows
    firsts_distinct i j row other l d e k =
        let c : 2 ≤ count_at (first_pixel whole.width) (first_pixel whole.width other) rows =
        two_counted (first_pixel whole.width) (first_pixel whole.width other) rows i j row other l d e k refl in
        let w : HasTwoAt (first_pixel whole.width) (first_pixel whole.width other) (rows_of_placed placed) =
        two_from_count (first_pixel whole.width) (first_pixel whole.width other) (rows_of_placed placed)
        (subst (λ (n : ℕ). 2 ≤ n) (sym (same_count (first_pixel whole.width other))) c) in
        let a = row_at_place placed w.one w.member w.at in
        let b = row_at_place placed w.other w.other_member w.other_at in
        let less : (a.0).first < (b.0).first = rising w.one w.other a.0 b.0 w.less a.1 b.1 in
        let one : first_pixel whole.width w.member ≡ (a.0).first = ap (first_pixel whole.width) (sym a.2) ∙ first_is w.one a.0 a.1 in
        let two : first_pixel whole.width w.other_member ≡ (b.0).first = ap (first_pixel whole.width) (sym b.2) ∙ first_is w.other b.0 b.1 in
        absurd (omega (arith, one, two, w.number, w.other_number))

    rising_rows : IsRisingBy (first_pixel whole.width) (rows_of_placed placed)
    rising_rows =
        rising_from_places (first_pixel whole.width) (rows_of_placed placed)
        (λ i j row other l d e.
        let a = row_at_place placed i row d in
        let b = row_at_place placed j other e in
        let less : (a.0).first < (b.0).first = rising i j a.0 b.0 l a.1 b.1 in
        let one : first_pixel whole.width row ≡ (a.0).first = ap (first_pixel whole.width) (sym a.2) ∙ first_is i a.0 a.1 in
        let two : first_pixel whole.width other ≡ (b.0).first = ap (first_pixel whole.width) (sym b.2) ∙ first_is j b.0 b.1 in
        omega arith)

    -- and they are the model's
    pub rows_are_the_model : rows_of_placed placed ≡ rows_in_order whole tiles
    rows_are_the_model =
        rising_equal (first_pixel whole.width) (rows_of_placed placed) (rows_in_order whole tiles) rising_rows (rising_model whole tiles firsts_distinct)
        (λ row m. among_model whole tiles firsts row (among_back row m))
        (λ row m. among_there row (among_from_model whole tiles row m))
