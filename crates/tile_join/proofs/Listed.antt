-- Rows that are put into lists: those of the first tiles, one tile more, and those of one tile, one row more.
use Rattle.std.proofs.Common.{add-one, zero, suc, ◌⊎◌, inl, inr, ◌-◌, ◌≡◌, ℕ, ◌+◌, ◌<◌, ◌≤◌, List, [], ◌∷◌, ◌++◌, map, length, take, get_or, refl, sym, ◌∙◌, ap, subst, arith, append_assoc, append-nil, drop, take-append-drop}
use Rattle.std.specs.Prelude.{Some, slice_get}
use Rattle.std.specs.List.{AllAdjacentBelow}
use Rattle.std.specs.List.Sorted.{IsNonDecreasingBy}
use Rattle.std.proofs.lemmas.Option.{get_or_from_slice_get, slice_get_within}
use Rattle.std.proofs.lemmas.Bool.{cases_eq}
use Rattle.std.proofs.lemmas.List.{length-map, length-take-le, map-append, take_all, take_more}
use Rattle.std.proofs.lemmas.List.Concat.{flat_map-append}
use Rattle.std.proofs.lemmas.List.Sorted.{all_adjacent_more}
use Rattle.lemmas.proofs.Exported.{IsAmong, among-append_left}
use Rattle.comp_tree.specs.declared.shape.Shape.{Shape}
use Rattle.source_pick.specs.declared.catalogue.CatRow.{CatRow}
use Rattle.tile_laws.specs.Pieces.{numbered_rows, row_with_number}
use Rattle.tile_join.specs.declared.placing.PlacedRow.{PlacedRow}
use Rattle.tile_join.specs.declared.tiles.TileCatalogue.{TileCatalogue}
use Rattle.tile_join.specs.Tiles.{rows_of_tiles}
use Rattle.tile_join.specs.Joins.{rows_in_order}
use Rattle.tile_join.specs.Places.{placed_row, rows_of_placed, AreFirstsRising, IsFirstTwice, HaveFirstsIn, HasTable, number_or, number_given, AreJoinedNumbers}
use Rattle.tile_join.proofs.Sorted.{tile_among_model}
use Rattle.tile_join.proofs.Numbers.{numbered_more, numbers_more}

-- the list up to a place, and the member there
pub take_next : {X : Type 0} (xs : List X) (i : ℕ) (x : X) → slice_get xs i ≡ Some x → take (i + 1) xs ≡ take i xs ++ x ∷ []
take_next xs i x e =
    take_more xs i x (slice_get_within xs i x e) ∙ ap (λ y. take i xs ++ y ∷ []) (get_or_from_slice_get xs i x x e)

-- one tile more
pub tile_listed : (width : ℕ) (tiles : List TileCatalogue) (i : ℕ) (t : TileCatalogue) (rows : List CatRow) (old new : List PlacedRow)
    → old ≡ map (placed_row width) (rows_of_tiles (take i tiles)) → slice_get tiles i ≡ Some t → rows ≡ t.rows.items
    → new ≡ old ++ map (placed_row width) rows → new ≡ map (placed_row width) (rows_of_tiles (take (i + 1) tiles))
tile_listed width tiles i t rows old new e g r n =
    n
    ∙ ap (λ (ps : List PlacedRow). ps ++ map (placed_row width) rows) e
    ∙ ap (λ (rs : List CatRow). map (placed_row width) (rows_of_tiles (take i tiles)) ++ map (placed_row width) rs) (r ∙ sym (append-nil t.rows.items))
    ∙ sym (map-append (placed_row width) (rows_of_tiles (take i tiles)) (t.rows.items ++ []))
    ∙ ap (map (placed_row width)) (sym (flat_map-append (λ (u : TileCatalogue). u.rows.items) (take i tiles) (t ∷ [])))
    ∙ ap (λ (ts : List TileCatalogue). map (placed_row width) (rows_of_tiles ts)) (sym (take_next tiles i t g))

pub all_listed : (width : ℕ) (tiles : List TileCatalogue) (i : ℕ) (placed : List PlacedRow)
    → placed ≡ map (placed_row width) (rows_of_tiles (take i tiles)) → length tiles ≤ i → placed ≡ map (placed_row width) (rows_of_tiles tiles)
all_listed width tiles i placed e l = e ∙ ap (λ (ts : List TileCatalogue). map (placed_row width) (rows_of_tiles ts)) (take_all i tiles l)

-- one row more
pub row_listed : (width : ℕ) (rows : List CatRow) (i : ℕ) (row : CatRow) (a : PlacedRow) (front old new : List PlacedRow)
    → old ≡ front ++ map (placed_row width) (take i rows) → slice_get rows i ≡ Some row → a ≡ placed_row width row → new ≡ old ++ a ∷ []
    → new ≡ front ++ map (placed_row width) (take (i + 1) rows)
row_listed width rows i row a front old new e g d n =
    n
    ∙ ap (λ (b : PlacedRow). old ++ b ∷ []) d
    ∙ ap (λ (ps : List PlacedRow). ps ++ placed_row width row ∷ []) e
    ∙ append_assoc front (map (placed_row width) (take i rows)) (placed_row width row ∷ [])
    ∙ ap (λ (ps : List PlacedRow). front ++ ps)
    (sym (map-append (placed_row width) (take i rows) (row ∷ [])) ∙ ap (map (placed_row width)) (sym (take_next rows i row g)))

pub rows_listed : (width : ℕ) (rows : List CatRow) (i : ℕ) (front placed : List PlacedRow) → placed ≡ front ++ map (placed_row width) (take i rows)
    → length rows ≤ i → placed ≡ front ++ map (placed_row width) rows
rows_listed width rows i front placed e l = e ∙ ap (λ (rs : List CatRow). front ++ map (placed_row width) rs) (take_all i rows l)

-- one row more that is numbered
pub row_numbered : (placed : List PlacedRow) (i : ℕ) (a : PlacedRow) (row : CatRow) (old new : List CatRow) → old ≡ numbered_rows (rows_of_placed (take i placed))
    → slice_get placed i ≡ Some a → row ≡ row_with_number (i + 1) a.row → new ≡ old ++ row ∷ [] → new ≡ numbered_rows (rows_of_placed (take (i + 1) placed))
row_numbered placed i a row old new e g d n =
    n
    ∙ ap (λ (r : CatRow). old ++ r ∷ []) d
    ∙ ap (λ (rs : List CatRow). rs ++ row_with_number (i + 1) a.row ∷ []) e
    ∙ sym (numbered_more (rows_of_placed (take i placed)) a.row (i + 1) size)
    ∙ ap numbered_rows (sym (map-append (λ (b : PlacedRow). b.row) (take i placed) (a ∷ [])))
    ∙ ap (λ (ps : List PlacedRow). numbered_rows (rows_of_placed ps)) (sym (take_next placed i a g))
  where
    size : i + 1 ≡ length (rows_of_placed (take i placed)) + 1
    size =
        let l : i < length placed = slice_get_within placed i a g in
        let k : length (rows_of_placed (take i placed)) ≡ length (take i placed) = length-map (take i placed) (λ (b : PlacedRow). b.row) in
        let m : length (take i placed) ≡ i = length-take-le i placed (omega arith) in
        omega arith

pub all_numbered : (placed : List PlacedRow) (i : ℕ) (rows : List CatRow) → rows ≡ numbered_rows (rows_of_placed (take i placed)) → length placed ≤ i
    → rows ≡ numbered_rows (rows_of_placed placed)
all_numbered placed i rows e l = e ∙ ap (λ (ps : List PlacedRow). numbered_rows (rows_of_placed ps)) (take_all i placed l)

-- ---- first pixels in order

-- two neighbours with one first pixel
pub clash_from : (placed : List PlacedRow) (i : ℕ) (a b : PlacedRow) → 1 ≤ i → slice_get placed (i - 1) ≡ Some a → slice_get placed i ≡ Some b
    → a.first ≡ b.first → IsFirstTwice placed b.first
clash_from placed i a b l d e k = record {
  it = i - 1;
  one = a;
  next = b;
  at = d;
  next_at = ap (slice_get placed) (omega arith) ∙ e;
  first = k;
  next_first = refl;
}

-- one neighbour more that differs
pub rising_more : (placed : List PlacedRow) (i : ℕ) (a b : PlacedRow) → IsNonDecreasingBy (λ (s : PlacedRow). s.first) placed → 1 ≤ i
    → AllAdjacentBelow (λ x y. x.first < y.first) placed i → slice_get placed (i - 1) ≡ Some a → slice_get placed i ≡ Some b → (a.first ≡ b.first → ⊥)
    → AllAdjacentBelow (λ x y. x.first < y.first) placed (i + 1)
rising_more placed i a b sorted l h d e n = all_adjacent_more placed (λ x y. x.first < y.first) i (omega arith) h next
  where
    next : (x : PlacedRow) → (get_or placed (i - 1) x).first < (get_or placed i x).first
    next x =
        let le : (get_or placed (i - 1) x).first ≤ (get_or placed i x).first = sorted (i - 1) i x (omega arith) (slice_get_within placed i b e) in
        let f : (get_or placed (i - 1) x).first ≡ a.first = ap (λ (s : PlacedRow). s.first) (get_or_from_slice_get placed (i - 1) a x d) in
        let g : (get_or placed i x).first ≡ b.first = ap (λ (s : PlacedRow). s.first) (get_or_from_slice_get placed i b x e) in
        omega arith

pub rising_all : (placed : List PlacedRow) (i : ℕ) → AllAdjacentBelow (λ x y. x.first < y.first) placed i → length placed ≤ i → AreFirstsRising placed
rising_all placed i h l j k a b m d e =
    subst (λ (x : PlacedRow). a.first < x.first) (get_or_from_slice_get placed k b a e)
    (subst (λ (x : PlacedRow). x.first < (get_or placed k a).first) (get_or_from_slice_get placed j a a d)
    (far k m (slice_get_within placed k b e)))
  where
    far : (n : ℕ) → j < n → n < length placed → (get_or placed j a).first < (get_or placed n a).first
    far zero p q = absurd (omega arith)
    far (suc n) p q = go (cases_eq j n) (far n)
      where
        step : (get_or placed n a).first < (get_or placed (suc n) a).first
        step = subst (λ (m : ℕ). (get_or placed n a).first < (get_or placed m a).first) (add-one n) (h n a (omega arith))

        go : (j ≡ n) ⊎ (j ≡ n → ⊥) → (j < n → n < length placed → (get_or placed j a).first < (get_or placed n a).first)
            → (get_or placed j a).first < (get_or placed (suc n) a).first
        go (inl s) rest = subst (λ (x : ℕ). (get_or placed x a).first < (get_or placed (suc n) a).first) (sym s) step
        go (inr s) rest =
            let f : (get_or placed j a).first < (get_or placed n a).first = rest (omega arith) (omega arith) in
            let g : (get_or placed n a).first < (get_or placed (suc n) a).first = step in
            omega arith

-- ---- the map, one tile more

among_front : {X : Type 0} (x : X) (xs : List X) (i : ℕ) → IsAmong x (take i xs) → IsAmong x xs
among_front x xs i m = subst (λ ys. IsAmong x ys) (take-append-drop i xs) (among-append_left x (take i xs) (drop i xs) m)

pub tile_written : (whole : Shape) (tiles : List TileCatalogue) (placed : List PlacedRow) (i : ℕ) (t : TileCatalogue) (found table old new : List ℕ)
    → HaveFirstsIn whole (rows_of_tiles tiles) → rows_of_placed placed ≡ rows_in_order whole tiles → slice_get tiles i ≡ Some t
    → HasTable whole.width (rows_of_placed placed) t found → table ≡ found
    → ((p : ℕ) → get_or new p 0 ≡ number_or (get_or old p 0) (number_given whole.width t table p))
    → AreJoinedNumbers whole tiles (take i tiles) old → AreJoinedNumbers whole tiles (take (i + 1) tiles) new
tile_written whole tiles placed i t found table old new firsts rows g has same written h =
    subst (λ (ts : List TileCatalogue). AreJoinedNumbers whole tiles ts new) (sym (take_next tiles i t g))
    (numbers_more whole tiles (take i tiles) t table old new
    (λ u m. tile_among_model whole tiles u firsts (among_front u tiles i m))
    (subst (λ (ns : List ℕ). HasTable whole.width (rows_in_order whole tiles) t ns) (sym same)
    (subst (λ (rs : List CatRow). HasTable whole.width rs t found) rows has))
    written h)
