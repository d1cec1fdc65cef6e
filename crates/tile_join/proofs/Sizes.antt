-- How many rows tiles give together, from which rows these are, and how large the numbers of the map are.
use Rattle.std.proofs.Common.{◌≡◌, ℕ, ◌+◌, ◌*◌, ◌<◌, ◌≤◌, suc, Bool, true, false, List, [], ◌∷◌, length, refl, sym, subst, arith, inl, inr}
use Rattle.std.specs.Prelude.{IsTrue, ◌==◌, cond, flat_map, map, Option, Some, None, slice_index, unwrap_or}
use Rattle.std.specs.List.{range_with_len, position_from, enumerate_from}
use Rattle.std.specs.Option.{option_map, option_to_list}
use Rattle.std.proofs.lemmas.Bool.{eqb-true}
use Rattle.lemmas.proofs.Exported.{IsAmong, IsRisingBy, among_from_filter, among_from_range}
use Rattle.comp_tree.specs.declared.shape.Shape.{Shape}
use Rattle.source_pick.specs.declared.catalogue.CatRow.{CatRow}
use Rattle.tile_laws.specs.Pieces.{first_pixel, numbered_rows, row_with_number}
use Rattle.tile_join.specs.declared.tiles.TileCatalogue.{TileCatalogue}
use Rattle.tile_join.specs.Tiles.{window_of, rows_of_tiles, is_in_frame, AreJoinable}
use Rattle.tile_join.specs.Joins.{rows_first_at, rows_in_order, joined_rows, joined_number, row_of_number, in_window, number_from, number_joined_at, joined_map}
use Rattle.tile_join.proofs.InOrder.{IsFromList, from_list, rows_rise, among_from_order}

-- ---- the rows

-- of members that rise by numbers from a up to b there are no more than that
few_from_rising : {X : Type 0} (f : X → ℕ) (xs : List X) (a b : ℕ) → IsRisingBy f xs → ((x : X) → IsAmong x xs → a ≤ f x) → ((x : X) → IsAmong x xs → f x < b)
    → a ≤ b → length xs + a ≤ b
few_from_rising f [] a b rise low high order = omega (arith, order)
few_from_rising f (x ∷ xs) a b rise low high order =
    let least : a ≤ f x = low x (inl refl) in
    let most : f x < b = high x (inl refl) in
    let rest : length xs + (f x + 1) ≤ b =
    few_from_rising f xs (f x + 1) b rise.1 (λ y m. let k : f x < f y = rise.0 y m in omega (arith, k)) (λ y m. high y (inr m)) (omega (arith, most)) in
    omega (arith, least, rest)

-- the first pixel of each row is one of the image
first_within : (whole : Shape) (tiles : List TileCatalogue) (row : CatRow) → IsAmong row (rows_in_order whole tiles)
    → first_pixel whole.width row < whole.width * whole.height
unfolding rows_in_order rows_first_at
first_within whole tiles row m =
    let g : IsFromList (rows_first_at whole.width tiles) row (range_with_len 0 (whole.width * whole.height)) =
    from_list (rows_first_at whole.width tiles) row (range_with_len 0 (whole.width * whole.height)) m in
    let k : IsAmong row (rows_of_tiles tiles) × IsTrue (first_pixel whole.width row == g.it) =
    among_from_filter (λ (r : CatRow). first_pixel whole.width r == g.it) row (rows_of_tiles tiles) g.of in
    let e : first_pixel whole.width row ≡ g.it = eqb-true (first_pixel whole.width row) g.it k.1 in
    let low : (0 ≤ g.it) × (g.it < 0 + whole.width * whole.height) = among_from_range 0 (whole.width * whole.height) g.it g.among in
    omega (arith, e, low.1)

-- there are no more rows than pixels
pub rows_are_few : (whole : Shape) (tiles : List TileCatalogue) → AreJoinable whole tiles → length (rows_in_order whole tiles) ≤ whole.width * whole.height
rows_are_few whole tiles joinable =
    let k : length (rows_in_order whole tiles) + 0 ≤ whole.width * whole.height =
    few_from_rising (first_pixel whole.width) (rows_in_order whole tiles) 0 (whole.width * whole.height) (rows_rise whole tiles joinable.distinct)
    (λ x m. omega arith) (first_within whole tiles) (omega arith) in
    omega (arith, k)

-- a row of a list, with another number
pub record IsRenumbered (rows : List CatRow) (first : ℕ) (row : CatRow) : Type 0 where
  pub number : ℕ
  pub other : CatRow
  pub among : IsAmong other rows
  pub low : first ≤ number
  pub high : number < first + length rows
  pub row_is : row ≡ row_with_number number other

renumbered_from : (rows : List CatRow) (first : ℕ) (row : CatRow) → IsAmong row (map (λ e. row_with_number e.0 e.1) (enumerate_from first rows))
    → IsRenumbered rows first row
renumbered_from [] first row m = absurd m
renumbered_from (x ∷ rows) first row (inl e) =
    record { number = first; other = x; among = inl refl; low = omega arith; high = omega arith; row_is = sym e }
renumbered_from (x ∷ rows) first row (inr m) =
    let g : IsRenumbered rows (first + 1) row = renumbered_from rows (first + 1) row m in
    record { number = g.number; other = g.other; among = inr g.among; low = omega (arith, g.low); high = omega (arith, g.high); row_is = g.row_is }

-- each joined row is one of a tile's, with another number
pub joined_row_from : (whole : Shape) (tiles : List TileCatalogue) (row : CatRow) → IsAmong row (joined_rows whole tiles)
    → IsRenumbered (rows_in_order whole tiles) 1 row
unfolding numbered_rows
joined_row_from whole tiles row m = renumbered_from (rows_in_order whole tiles) 1 row m

pub row_of_tiles : (whole : Shape) (tiles : List TileCatalogue) (row : CatRow) → IsAmong row (rows_in_order whole tiles) → IsAmong row (rows_of_tiles tiles)
row_of_tiles whole tiles row m = among_from_order whole tiles row m

-- ---- the map

place_small : (P : CatRow → Bool) (first : ℕ) (rows : List CatRow) → 1 ≤ first → unwrap_or (position_from P first rows) 0 + 1 ≤ first + length rows
place_small P first [] some = omega (arith, some)
place_small P first (row ∷ rows) some = go (P row) refl (place_small P (first + 1) rows (omega arith))
  where
    go : (b : Bool) → P row ≡ b → unwrap_or (position_from P (first + 1) rows) 0 + 1 ≤ first + 1 + length rows
        → unwrap_or (position_from P first (row ∷ rows)) 0 + 1 ≤ first + suc (length rows)
    go true e rest = rw e (omega arith)
    go false e rest = rw e (omega (arith, rest))

number_small : (whole : Shape) (tiles : List TileCatalogue) (row : CatRow) → joined_number whole tiles row ≤ length (rows_in_order whole tiles)
unfolding joined_number
number_small whole tiles row =
    let k : unwrap_or (position_from (λ other. first_pixel whole.width other == first_pixel whole.width row) 1 (rows_in_order whole tiles)) 0 + 1
    ≤ 1 + length (rows_in_order whole tiles) =
    place_small (λ other. first_pixel whole.width other == first_pixel whole.width row) 1 (rows_in_order whole tiles) (omega arith) in
    omega (arith, k)

-- the first member of a list of numbers that are small, or 0
first_small : (most : ℕ) (ns : List ℕ) → ((n : ℕ) → IsAmong n ns → n ≤ most) → slice_index ns 0 ≤ most
first_small most [] small = omega arith
first_small most (n ∷ ns) small = small n (inl refl)

option_small : (whole : Shape) (tiles : List TileCatalogue) (o : Option CatRow) (n : ℕ) → IsAmong n (option_to_list (option_map (joined_number whole tiles) o))
    → n ≤ length (rows_in_order whole tiles)
option_small whole tiles None n m = absurd m
option_small whole tiles (Some row) n (inl e) = subst (λ k. k ≤ length (rows_in_order whole tiles)) e (number_small whole tiles row)
option_small whole tiles (Some row) n (inr m) = absurd m

given_small : (whole : Shape) (tiles : List TileCatalogue) (t : TileCatalogue) (p n : ℕ) → IsAmong n (option_to_list (number_from whole tiles t p))
    → n ≤ length (rows_in_order whole tiles)
unfolding number_from
given_small whole tiles t p n m = go (is_in_frame whole.width t.window p) refl m
  where
    found : Option CatRow
    found = row_of_number t (slice_index t.map.items (in_window whole.width (window_of t.window) p))

    go : (b : Bool) → is_in_frame whole.width t.window p ≡ b → IsAmong n (option_to_list (cond b (option_map (joined_number whole tiles) found) None))
        → n ≤ length (rows_in_order whole tiles)
    go true e k = option_small whole tiles found n k
    go false e k = absurd k

joined_small : (whole : Shape) (tiles : List TileCatalogue) (p : ℕ) → number_joined_at whole tiles p ≤ length (rows_in_order whole tiles)
unfolding number_joined_at
joined_small whole tiles p =
    first_small (length (rows_in_order whole tiles)) (flat_map (λ t. option_to_list (number_from whole tiles t p)) tiles) small
  where
    small : (n : ℕ) → IsAmong n (flat_map (λ t. option_to_list (number_from whole tiles t p)) tiles) → n ≤ length (rows_in_order whole tiles)
    small n m =
        let g : IsFromList (λ (t : TileCatalogue). option_to_list (number_from whole tiles t p)) n tiles =
        from_list (λ (t : TileCatalogue). option_to_list (number_from whole tiles t p)) n tiles m in
        given_small whole tiles g.it p n g.of

all_small : (most : ℕ) (f : ℕ → ℕ) (ps : List ℕ) → ((p : ℕ) → f p ≤ most) → (n : ℕ) → IsAmong n (map f ps) → n ≤ most
all_small most f [] small n m = absurd m
all_small most f (p ∷ ps) small n (inl e) = subst (λ k. k ≤ most) e (small p)
all_small most f (p ∷ ps) small n (inr m) = all_small most f ps small n m

-- no number of the map is greater than the number of rows
pub numbers_are_small : (whole : Shape) (tiles : List TileCatalogue) (n : ℕ) → IsAmong n (joined_map whole tiles) → n ≤ length (rows_in_order whole tiles)
unfolding joined_map
numbers_are_small whole tiles n m =
    all_small (length (rows_in_order whole tiles)) (number_joined_at whole tiles) (range_with_len 0 (whole.width * whole.height)) (joined_small whole tiles) n m
