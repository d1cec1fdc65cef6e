-- The law of tiles: their rows are those of the image's pieces, merged, and their maps name these rows.
use Rattle.std.proofs.Common.{◌≡◌, ℕ, ◌+◌, ◌-◌, ◌*◌, ◌/◌, ◌%◌, ◌<◌, ◌≤◌, zero, suc, Bool, true, false, cond, ◌&&◌, List, [], ◌∷◌, ◌++◌, length, refl, sym, ◌∙◌, ap, subst, arith, ◌⊎◌, inl, inr}
use Rattle.std.specs.Prelude.{IsTrue, ◌==◌, nat_le, pos, flat_map, map, Contains, Option, Some, None, slice_get, slice_index, unwrap_or}
use Rattle.std.specs.List.{list_all, position_from}
use Rattle.std.specs.Option.{option_map, option_to_list}
use Rattle.std.specs.Ordering.{int_eq}
use Rattle.std.proofs.lemmas.Bool.{and_parts, eq-eqb, eqb-true, leb-true, true≢false}
use Rattle.std.proofs.lemmas.Grind.{same_number_lists}
use Rattle.std.proofs.lemmas.List.{length-map}
use Rattle.std.proofs.lemmas.List.FromFn.{get_or-map-range_with_len, length-map-range_with_len}
use Rattle.std.proofs.lemmas.Nat.{div-add-mod', mod_below}
use Rattle.std.proofs.lemmas.Option.{same_Some}
use Rattle.std.proofs.Math.Nat.{div-lt_iff_lt-mul, mul_comm}
use Rattle.lemmas.proofs.Exported.{IsAmong, IsRisingBy, among-filter, among-flat_map, among-map, among_from_filter, among_get, among_of, contains_from_among, find_none}
use Rattle.lemmas.proofs.Exported.{find_some, int_eq-from, int_eq-true}
use Rattle.comp_tree.specs.declared.shape.Connect.{Connect}
use Rattle.comp_tree.specs.declared.shape.Shape.{Shape}
use Rattle.comp_tree.specs.Raster.{Raster, IsPlane}
use Rattle.comp_tree.specs.Windows.{Window, IsInside, in_whole, seen_through}
use Rattle.comp_tree.proofs.Exported.{IsAt, in_whole-at, length-pixels, row_below}
use Rattle.mesh_background.specs.Residuals.{residual_with}
use Rattle.mesh_background.specs.Laws.{ResidualIsPlane}
use Rattle.source_pick.specs.declared.choice.Choice.{Choice}
use Rattle.source_pick.specs.declared.catalogue.CatRow.{CatRow}
use Rattle.source_pick.specs.Sources.{sources}
use Rattle.source_pick.specs.Catalogue.{catalogue, catalogue_of, catalogue_row, measured_row, moved_row}
use Rattle.source_pick.proofs.Exported.{segmentation-is}
use Rattle.tile_laws.specs.Clear.{window_box}
use Rattle.tile_laws.specs.Pieces.{DetectionChoice, Piece, searched, detected, mapped, AnswersForCore, CoversImage, first_pixel, IsFromPiece, AreMerged}
use Rattle.tile_laws.specs.Pieces.{IsMappedBy}
use Rattle.tile_laws.specs.Final.{PartsOfCoresAreAnswered}
use Rattle.tile_laws.specs.Laws.{PiecesGiveTheCatalogue, PiecesGiveTheMap}
use Rattle.tile_laws.proofs.Exported.{IsPlacedIn, placed_in, in_from_placed, IsSeenAt, seen_at, IsImageOf, image_of, get_among, IsRowOf, row_of}
use Rattle.tile_join.specs.declared.tiles.TileCatalogue.{TileCatalogue}
use Rattle.tile_join.specs.Tiles.{window_of, is_in_frame, is_frame_of, fits_tile, fits_image, AreJoinable}
use Rattle.tile_join.specs.Joins.{rows_in_order, joined_rows, joined_number, row_of_number, in_window, number_from, number_joined_at, joined_map}
use Rattle.tile_join.specs.Made.{own_rows, known_piece_of, AreTilesMade}
use Rattle.tile_join.specs.Laws.{JoinedTilesAreTheWhole}
use Rattle.tile_join.proofs.Known.{all_known}
use Rattle.tile_join.proofs.InOrder.{IsFromList, from_list, rows_rise, among_in_order, among_from_order}

-- ---- lists

rising_places : {X : Type 0} (f : X → ℕ) (xs : List X) → IsRisingBy f xs → (i j : ℕ) (x y : X) → i < j → slice_get xs i ≡ Some x → slice_get xs j ≡ Some y
    → f x < f y
rising_places {X} f [] rise i j x y less a b = absurd (no_member a)
  where
    no_member : None ≡ Some x → ⊥
    no_member e = cc
rising_places f (z ∷ xs) rise zero zero x y less a b = absurd (omega (arith, less))
rising_places f (z ∷ xs) rise zero (suc j) x y less a b =
    subst (λ v. f v < f y) (same_Some z x a) (rise.0 y (get_among y xs j b))
rising_places f (z ∷ xs) rise (suc i) zero x y less a b = absurd (omega (arith, less))
rising_places f (z ∷ xs) rise (suc i) (suc j) x y less a b = rising_places f xs rise.1 i j x y (omega (arith, less)) a b

-- the place of a member among those that rise by a number
place_of_number : {X : Type 0} (f : X → ℕ) (xs : List X) → IsRisingBy f xs → (i k : ℕ) (x : X) → slice_get xs k ≡ Some x
    → position_from (λ y. f y == f x) i xs ≡ Some (k + i)
place_of_number {X} f [] rise i k x at = absurd (no_member at)
  where
    no_member : None ≡ Some x → ⊥
    no_member e = cc
place_of_number f (y ∷ xs) rise i zero x at =
    let e : (f y == f x) ≡ true = eq-eqb (f y) (f x) (ap f (same_Some y x at)) in rw e (ap Some (omega arith))
place_of_number f (y ∷ xs) rise i (suc k) x at = go (f y == f x) refl (place_of_number f xs rise.1 (i + 1) k x at)
  where
    go : (b : Bool) → f y == f x ≡ b → position_from (λ z. f z == f x) (i + 1) xs ≡ Some (k + (i + 1))
        → cond b (Some i) (position_from (λ z. f z == f x) (i + 1) xs) ≡ Some (suc k + i)
    go true e rest = let l : f y < f x = rise.0 x (get_among x xs k at) in let s : f y ≡ f x = eqb-true (f y) (f x) e in absurd (omega (arith, l, s))
    go false e rest = rest ∙ ap Some (omega arith)

-- the first of what a list's members give
record IsGiven {X : Type 0} (f : X → Option ℕ) (xs : List X) (v : ℕ) : Type 0 where
  index : ℕ
  it : X
  at : slice_get xs index ≡ Some it
  gives : f it ≡ Some v

first_given : {X : Type 0} (f : X → Option ℕ) (xs : List X)
    → IsGiven f xs (slice_index (flat_map (λ x. option_to_list (f x)) xs) 0)
    ⊎ ((slice_index (flat_map (λ x. option_to_list (f x)) xs) 0 ≡ 0) × ((x : X) → IsAmong x xs → f x ≡ None))
first_given f [] = inr (refl, λ x m. absurd m)
first_given {X} f (x ∷ xs) = go (f x) refl (first_given f xs)
  where
    rest : ℕ
    rest = slice_index (flat_map (λ y. option_to_list (f y)) xs) 0

    go : (o : Option ℕ) → f x ≡ o → IsGiven f xs rest ⊎ ((rest ≡ 0) × ((y : X) → IsAmong y xs → f y ≡ None))
        → IsGiven f (x ∷ xs) (slice_index (option_to_list o ++ flat_map (λ y. option_to_list (f y)) xs) 0)
        ⊎ ((slice_index (option_to_list o ++ flat_map (λ y. option_to_list (f y)) xs) 0 ≡ 0) × ((y : X) → IsAmong y (x ∷ xs) → f y ≡ None))
    go (Some v) e later = inl (record { index = 0; it = x; at = refl; gives = e })
    go None e (inl g) = inl (record { index = suc g.index; it = g.it; at = g.at; gives = g.gives })
    go None e (inr none) = inr (none.0, λ y m. elim m [ inl same ↦ ap f (sym same) ∙ e | inr k ↦ none.1 y k ])

-- ---- the rows of a catalogue have numbers of their own

number_is : (s : Raster) (connect : Connect) (k n : ℕ) → (catalogue_row s connect k n).number ≡ pos k
unfolding catalogue_row measured_row
number_is s connect k n = refl

pos_same : (m n : ℕ) → pos m ≡ pos n → m ≡ n
pos_same m n e = cc

same_number : (s : Raster) (connect : Connect) (choice : Choice) (a b : CatRow) → IsAmong a (catalogue s connect choice)
    → IsAmong b (catalogue s connect choice) → a.number ≡ b.number → a ≡ b
unfolding catalogue catalogue_of
same_number s connect choice a b m k e = sym x.image ∙ ap₂' place it ∙ y.image
  where
    x : IsRowOf (catalogue_row s connect) 1 a (sources s connect choice)
    x = row_of (catalogue_row s connect) 1 a (sources s connect choice) m

    y : IsRowOf (catalogue_row s connect) 1 b (sources s connect choice)
    y = row_of (catalogue_row s connect) 1 b (sources s connect choice) k

    numbers : pos (x.index + 1) ≡ pos (y.index + 1)
    numbers =
        sym (number_is s connect (x.index + 1) x.it) ∙ ap (λ (row : CatRow). row.number) x.image ∙ e
        ∙ sym (ap (λ (row : CatRow). row.number) y.image) ∙ number_is s connect (y.index + 1) y.it

    place : x.index ≡ y.index
    place = omega (arith, pos_same (x.index + 1) (y.index + 1) numbers)

    it : x.it ≡ y.it
    it = same_Some x.it y.it (sym x.at ∙ ap (slice_get (sources s connect choice)) place ∙ y.at)

    ap₂' : x.index ≡ y.index → x.it ≡ y.it → catalogue_row s connect (x.index + 1) x.it ≡ catalogue_row s connect (y.index + 1) y.it
    ap₂' p q = ap (λ (i : ℕ). catalogue_row s connect (i + 1) x.it) p ∙ ap (catalogue_row s connect (y.index + 1)) q

-- ---- the rows of a tile

row_found : (t : TileCatalogue) (n : ℕ) (row : CatRow) → row_of_number t n ≡ Some row → IsAmong row t.rows.items × IsTrue (int_eq row.number (pos n))
unfolding row_of_number
row_found t n row e = find_some (λ x. int_eq x.number (pos n)) t.rows.items row e

row_missing : (t : TileCatalogue) (n : ℕ) (row : CatRow) → row_of_number t n ≡ None → IsAmong row t.rows.items → int_eq row.number (pos n) ≡ false
unfolding row_of_number
row_missing t n row e m = find_none (λ x. int_eq x.number (pos n)) t.rows.items row e m

-- a tile's core has rows of the image
fourth : (a b c e f g : Bool) → a && b && c && e && f && g ≡ true → e ≡ true
fourth a b c e f g h = (and_parts (a && b && c) e (and_parts (a && b && c && e) f (and_parts (a && b && c && e && f) g h).0).0).1

core_rows : (whole : Shape) (t : TileCatalogue) → fits_image whole t ≡ true → t.core.top + t.core.shape.height ≤ whole.height
unfolding fits_image is_frame_of
core_rows whole t fits =
    leb-true (t.core.top + t.core.shape.height) whole.height
    (and_parts (nat_le (t.core.left + t.core.shape.width) whole.width) (nat_le (t.core.top + t.core.shape.height) whole.height) frame).1
  where
    frame : nat_le (t.core.left + t.core.shape.width) whole.width && nat_le (t.core.top + t.core.shape.height) whole.height ≡ true
    frame = fourth (t.whole.width == whole.width) (t.whole.height == whole.height)
        (nat_le (t.window.left + t.window.shape.width) whole.width && nat_le (t.window.top + t.window.shape.height) whole.height)
        (nat_le (t.core.left + t.core.shape.width) whole.width && nat_le (t.core.top + t.core.shape.height) whole.height)
        (length t.map.items == t.window.shape.width * t.window.shape.height) (list_all (fits_tile whole t) t.rows.items) fits

-- ---- tiles of one image

-- the piece of an image with so many columns that a tile is
abbrev piece_of : ℕ → TileCatalogue → Piece
piece_of width t = record { window = window_of t.window; core = is_in_frame width t.core }

module _ (plane_law : ResidualIsPlane) (catalogue_law : PiecesGiveTheCatalogue) (map_law : PiecesGiveTheMap) (parts_law : PartsOfCoresAreAnswered)
    (d : DetectionChoice) (r : Raster) (tiles : List TileCatalogue) (plane : IsPlane r) (made : AreTilesMade d r tiles) (good : AreJoinable r.shape tiles) where
  abbrev width : ℕ
  width = r.shape.width

  abbrev pieces : List Piece
  pieces = map (piece_of width) tiles

  abbrev rows : List CatRow
  rows = rows_in_order r.shape tiles

  abbrev seen : TileCatalogue → Raster
  seen t = seen_through (window_of t.window) r

  -- the tile that a piece is
  record IsOfTile (p : Piece) : Type 0 where
    index : ℕ
    tile : TileCatalogue
    at : slice_get tiles index ≡ Some tile
    is : piece_of width tile ≡ p

  of_tile : (p : Piece) → Contains pieces p → IsOfTile p
  of_tile p c =
      let m : IsImageOf (piece_of width) p tiles = image_of (piece_of width) p tiles (among_of p pieces c) in
      let g : (j : ℕ) × (slice_get tiles j ≡ Some m.it) = among_get m.it tiles m.among in
      record { index = g.0; tile = m.it; at = g.1; is = m.image }

  piece_there : (i : ℕ) (t : TileCatalogue) → slice_get tiles i ≡ Some t → Contains pieces (piece_of width t)
  piece_there i t at = contains_from_among (piece_of width t) pieces (among-map (piece_of width) t tiles (get_among t tiles i at))

  answers : (p : Piece) → Contains pieces p → AnswersForCore d r p
  answers p c =
      let k : IsOfTile p = of_tile p c in
      subst (AnswersForCore d r) k.is (parts_law d r (known_piece_of width k.tile) (is_in_frame width k.tile.core) (made k.index k.tile k.at).answers
      (λ q own. all_known width k.tile q (good.known k.index k.tile k.at) own))

  cover : CoversImage r.shape pieces
  cover p below =
      let g = good.cover p below in
      (piece_of width g.1.0, piece_there g.0 g.1.0 g.1.1, g.1.2)

  -- ---- rows

  from_tile : (i : ℕ) (t : TileCatalogue) → slice_get tiles i ≡ Some t → (row : CatRow) → IsAmong row t.rows.items → IsFromPiece d r (piece_of width t) row
  unfolding own_rows
  from_tile i t at row m = record {
    it = k.it;
    listed = contains_from_among k.it (detected d (seen t)) k.among;
    moved = sym k.image;
    own = both.1;
  }
    where
      both : IsAmong row (map (moved_row (window_of t.window)) (detected d (seen t))) × IsTrue (is_in_frame width t.core (first_pixel width row))
      both = among_from_filter (λ x. is_in_frame width t.core (first_pixel width x)) row (map (moved_row (window_of t.window)) (detected d (seen t)))
          (subst (λ (xs : List CatRow). IsAmong row xs) (made i t at).rows m)

      k : IsImageOf (moved_row (window_of t.window)) row (detected d (seen t))
      k = image_of (moved_row (window_of t.window)) row (detected d (seen t)) both.0

  to_tile : (i : ℕ) (t : TileCatalogue) → slice_get tiles i ≡ Some t → (row : CatRow) → IsFromPiece d r (piece_of width t) row → IsAmong row t.rows.items
  unfolding own_rows
  to_tile i t at row f =
      subst (λ (xs : List CatRow). IsAmong row xs) (sym (made i t at).rows)
      (among-filter (λ x. is_in_frame width t.core (first_pixel width x)) row (map (moved_row (window_of t.window)) (detected d (seen t)))
      (subst (λ (x : CatRow). IsAmong x (map (moved_row (window_of t.window)) (detected d (seen t)))) (sym f.moved)
      (among-map (moved_row (window_of t.window)) f.it (detected d (seen t)) (among_of f.it (detected d (seen t)) f.listed))) f.own)

  -- a tile's core lies in the image
  core_inside : (i : ℕ) (t : TileCatalogue) → slice_get tiles i ≡ Some t → t.core.top + t.core.shape.height ≤ r.shape.height
  core_inside i t at = core_rows r.shape t (good.fit i t at)

  core_below : (i : ℕ) (t : TileCatalogue) → slice_get tiles i ≡ Some t → (p : ℕ) → IsTrue (is_in_frame width t.core p) → p < r.shape.width * r.shape.height
  core_below i t at p h =
      let k : IsPlacedIn width (window_box (window_of t.core)) p = placed_in width (window_box (window_of t.core)) p h in
      let low : p / width < r.shape.height = omega (arith, k.bottom, core_inside i t at) in
      let l : p < r.shape.height * width = (div-lt_iff_lt-mul {k = width} {x = p} {y = r.shape.height} r.shape.within_limits.some_columns).0 low in
      subst (λ (m : ℕ). p < m) (mul_comm r.shape.height width) l

  rise : IsRisingBy (first_pixel width) rows
  rise = rows_rise r.shape tiles good.distinct

  -- the tile that a row is of
  record IsOfTiles (row : CatRow) : Type 0 where
    index : ℕ
    tile : TileCatalogue
    at : slice_get tiles index ≡ Some tile
    among : IsAmong row tile.rows.items

  of_tiles : (row : CatRow) → IsAmong row rows → IsOfTiles row
  of_tiles row m =
      let g : IsFromList (λ (t : TileCatalogue). t.rows.items) row tiles =
      from_list (λ (t : TileCatalogue). t.rows.items) row tiles (among_from_order r.shape tiles row m) in
      let k : (j : ℕ) × (slice_get tiles j ≡ Some g.it) = among_get g.it tiles g.among in
      record { index = k.0; tile = g.it; at = k.1; among = g.of }

  -- a row of a tile is one of all, at a place of its own
  in_rows : (i : ℕ) (t : TileCatalogue) → slice_get tiles i ≡ Some t → (row : CatRow) → IsAmong row t.rows.items → IsAmong row rows
  in_rows i t at row m =
      among_in_order r.shape tiles row (among-flat_map (λ (u : TileCatalogue). u.rows.items) t row tiles (get_among t tiles i at) m)
      (core_below i t at (first_pixel width row) (from_tile i t at row m).own)

  merged : AreMerged d r pieces rows
  merged = record {
    each = λ row c. let k : IsOfTiles row = of_tiles row (among_of row rows c) in
        (piece_of width k.tile, piece_there k.index k.tile k.at, from_tile k.index k.tile k.at row k.among);
    all = λ p row c f. let k : IsOfTile p = of_tile p c in
        contains_from_among row rows (in_rows k.index k.tile k.at row (to_tile k.index k.tile k.at row (subst (λ (q : Piece). IsFromPiece d r q row) (sym k.is) f)));
    rise = λ i j row other less a b. rising_places (first_pixel width) rows rise i j row other less a b;
  }

  same_catalogue : joined_rows r.shape tiles ≡ detected d r
  same_catalogue = sym (catalogue_law d r pieces rows plane cover answers merged)

  -- ---- the map

  number_at_place : (k : ℕ) (row : CatRow) → slice_get rows k ≡ Some row → joined_number r.shape tiles row ≡ k + 1
  unfolding joined_number
  number_at_place k row at = ap (λ (o : Option ℕ). unwrap_or o 0) (place_of_number (first_pixel width) rows rise 1 k row at)

  -- the number that a tile gives a pixel is that of a row which its map names there
  record IsNamed (t : TileCatalogue) (p v : ℕ) : Type 0 where
    row : CatRow
    inside : IsTrue (is_in_frame width t.window p)
    found : row_of_number t (slice_index t.map.items (in_window width (window_of t.window) p)) ≡ Some row
    number : v ≡ joined_number r.shape tiles row

  named : (t : TileCatalogue) (p v : ℕ) → number_from r.shape tiles t p ≡ Some v → IsNamed t p v
  unfolding number_from
  named t p v e = go (is_in_frame width t.window p) refl e
    where
      q : ℕ
      q = in_window width (window_of t.window) p

      by_row : (o : Option CatRow) → row_of_number t (slice_index t.map.items q) ≡ o → is_in_frame width t.window p ≡ true
          → option_map (joined_number r.shape tiles) o ≡ Some v → IsNamed t p v
      by_row None e inside f = absurd (no_member f)
        where
          no_member : None ≡ Some v → ⊥
          no_member e = cc
      by_row (Some row) e inside f = record { row = row; inside = inside; found = e; number = sym (same_Some (joined_number r.shape tiles row) v f) }

      go : (b : Bool) → is_in_frame width t.window p ≡ b
          → cond b (option_map (joined_number r.shape tiles) (row_of_number t (slice_index t.map.items q))) None ≡ Some v → IsNamed t p v
      go true inside f = by_row (row_of_number t (slice_index t.map.items q)) refl inside f
      go false inside f = absurd (no_member f)
        where
          no_member : None ≡ Some v → ⊥
          no_member e = cc

  moved_number : (w : Window) (row it : CatRow) → row ≡ moved_row w it → row.number ≡ it.number
  unfolding moved_row
  moved_number w row it e = ap (λ (x : CatRow). x.number) e

  -- a pixel of the window, in the image and back
  window_back : (w : Window) (q : ℕ) → IsInside r.shape w → in_window width w (in_whole width w q) ≡ q
  unfolding in_window
  window_back w q inside =
      let at : IsAt width w.shape.width w.left w.top (in_whole width w q) q = in_whole-at r.shape w q inside in
      let row : in_whole width w q / width - w.top ≡ q / w.shape.width = omega (arith, at.row) in
      let column : in_whole width w q % width - w.left ≡ q % w.shape.width = omega (arith, at.column) in
      ap (λ (x : ℕ). x * w.shape.width + (in_whole width w q % width - w.left)) row ∙ ap (λ (x : ℕ). q / w.shape.width * w.shape.width + x) column
      ∙ div-add-mod' q w.shape.width

  module _ (i : ℕ) (t : TileCatalogue) (at : slice_get tiles i ≡ Some t) (p k : ℕ) where
    abbrev w : Window
    w = window_of t.window

    inside : IsInside r.shape w
    inside = (made i t at).inside

    map_is : t.map.items ≡ mapped d (seen t)
    map_is = (made i t at).map

    -- the number that the tile gives names a row of the merged ones
    mapped_from : number_from r.shape tiles t p ≡ Some (k + 1) → IsMappedBy d r rows (piece_of width t) p k
    mapped_from e = record {
      pixel = pixel.it;
      below = pixel.below;
      place = pixel.place;
      row = g.row;
      at = subst (λ (j : ℕ). slice_get rows j ≡ Some g.row) place_is place.1;
      from = from;
      number = sym (moved_number w g.row from.it from.moved) ∙ row_number
          ∙ ap (λ (xs : List ℕ). pos (slice_index xs (in_window width w p))) map_is
          ∙ ap (λ (q : ℕ). pos (slice_index (mapped d (seen t)) q)) there;
    }
      where
        g : IsNamed t p (k + 1)
        g = named t p (k + 1) e

        found : IsAmong g.row t.rows.items × IsTrue (int_eq g.row.number (pos (slice_index t.map.items (in_window width w p))))
        found = row_found t (slice_index t.map.items (in_window width w p)) g.row g.found

        row_number : g.row.number ≡ pos (slice_index t.map.items (in_window width w p))
        row_number = int_eq-true g.row.number (pos (slice_index t.map.items (in_window width w p))) found.1

        from : IsFromPiece d r (piece_of width t) g.row
        from = from_tile i t at g.row found.0

        place : (j : ℕ) × (slice_get rows j ≡ Some g.row)
        place = among_get g.row rows (in_rows i t at g.row found.0)

        place_is : place.0 ≡ k
        place_is = let n : joined_number r.shape tiles g.row ≡ place.0 + 1 = number_at_place place.0 g.row place.1 in let m : k + 1 ≡ _ = g.number in omega (arith, n, m)

        placed : IsPlacedIn width (window_box w) p
        placed = placed_in width (window_box w) p g.inside

        pixel : IsSeenAt r w p
        pixel = seen_at r w p placed.left placed.right placed.top placed.bottom

        there : in_window width w p ≡ pixel.it
        there = ap (in_window width w) (sym pixel.place) ∙ window_back w pixel.it inside

    -- and back
    number_from_mapped : IsMappedBy d r rows (piece_of width t) p k → number_from r.shape tiles t p ≡ Some (k + 1)
    unfolding number_from residual_with
    number_from_mapped b =
        rw (in_frame) (ap (option_map (joined_number r.shape tiles)) (ap (λ (q : ℕ). row_of_number t (slice_index t.map.items q)) here ∙ row_is)
        ∙ ap Some (number_at_place k b.row b.at))
      where
        n : ℕ
        n = slice_index (mapped d (seen t)) b.pixel

        spot : IsAt width w.shape.width w.left w.top (in_whole width w b.pixel) b.pixel
        spot = in_whole-at r.shape w b.pixel inside

        here : in_window width w p ≡ b.pixel
        here = ap (in_window width w) (sym b.place) ∙ window_back w b.pixel inside

        in_frame : is_in_frame width t.window p ≡ true
        in_frame = subst (λ (x : ℕ). is_in_frame width t.window x ≡ true) b.place
            (in_from_placed width (window_box w) (in_whole width w b.pixel) (record {
              left = omega (arith, spot.column);
              right = omega (arith, spot.column, mod_below b.pixel w.shape.width w.shape.within_limits.some_columns);
              top = omega (arith, spot.row);
              bottom = omega (arith, spot.row, row_below w.shape.width w.shape.height b.pixel b.below);
            }))

        row_number : b.row.number ≡ pos n
        row_number = moved_number w b.row b.from.it b.from.moved ∙ b.number

        same_row : (x : CatRow) → IsAmong x t.rows.items → x.number ≡ pos n → x ≡ b.row
        same_row x m e = f.moved ∙ ap (moved_row w) it_is ∙ sym b.from.moved
          where
            f : IsFromPiece d r (piece_of width t) x
            f = from_tile i t at x m

            it_is : f.it ≡ b.from.it
            it_is = same_number (searched d (seen t)) d.connect d.choice f.it b.from.it (among_of f.it (detected d (seen t)) f.listed)
                (among_of b.from.it (detected d (seen t)) b.from.listed)
                (sym (moved_number w x f.it f.moved) ∙ e ∙ sym row_number ∙ moved_number w b.row b.from.it b.from.moved)

        found_row : (o : Option CatRow) → row_of_number t n ≡ o → o ≡ Some b.row
        found_row None e = absurd (true≢false (sym (int_eq-from b.row.number (pos n) row_number) ∙ row_missing t n b.row e (to_tile i t at b.row b.from)))
        found_row (Some x) e =
            let m : IsAmong x t.rows.items × IsTrue (int_eq x.number (pos n)) = row_found t n x e in
            ap Some (same_row x m.0 (int_eq-true x.number (pos n) m.1))

        row_is : row_of_number t (slice_index t.map.items b.pixel) ≡ Some b.row
        row_is =
            ap (λ (xs : List ℕ). row_of_number t (slice_index xs b.pixel)) map_is ∙ found_row (row_of_number t n) refl

  -- each pixel's number is the image's
  number_same : (p : ℕ) → number_joined_at r.shape tiles p ≡ slice_index (mapped d r) p
  unfolding number_joined_at
  number_same p = elim (first_given (λ (t : TileCatalogue). number_from r.shape tiles t p) tiles) [
    | inl g ↦ given g.index g.it g.at (slice_index (flat_map (λ t. option_to_list (number_from r.shape tiles t p)) tiles) 0) g.gives
    | inr none ↦ none.0 ∙ sym (not_mapped none.1 (slice_index (mapped d r) p) refl)
  ]
    where
      given : (i : ℕ) (t : TileCatalogue) → slice_get tiles i ≡ Some t → (v : ℕ) → number_from r.shape tiles t p ≡ Some v → v ≡ slice_index (mapped d r) p
      given i t at zero e = absurd (let g : IsNamed t p 0 = named t p 0 e in
          let m : IsAmong g.row rows = in_rows i t at g.row (row_found t _ g.row g.found).0 in
          let k : (j : ℕ) × (slice_get rows j ≡ Some g.row) = among_get g.row rows m in
          let n : joined_number r.shape tiles g.row ≡ k.0 + 1 = number_at_place k.0 g.row k.1 in
          let z : 0 ≡ joined_number r.shape tiles g.row = g.number in omega (arith, n, z))
      given i t at (suc k) e =
          let s : suc k ≡ k + 1 = omega arith in
          s ∙ sym ((map_law d r pieces rows p k plane cover answers merged).1
          (piece_of width t, piece_there i t at, mapped_from i t at p k (e ∙ ap Some s)))

      not_mapped : ((t : TileCatalogue) → IsAmong t tiles → number_from r.shape tiles t p ≡ None) → (v : ℕ) → slice_index (mapped d r) p ≡ v
          → slice_index (mapped d r) p ≡ 0
      not_mapped none zero e = e
      not_mapped none (suc k) e = absurd (some_none (sym gives ∙ none t.tile (get_among t.tile tiles t.index t.at)))
        where
          some_none : Some (k + 1) ≡ None → ⊥
          some_none e = cc

          g : (q : Piece) × Contains pieces q × IsMappedBy d r rows q p k
          g = (map_law d r pieces rows p k plane cover answers merged).0 (e ∙ omega arith)

          t : IsOfTile g.0
          t = of_tile g.0 g.1

          gives : number_from r.shape tiles t.tile p ≡ Some (k + 1)
          gives = number_from_mapped t.index t.tile t.at p k (subst (λ (q : Piece). IsMappedBy d r rows q p k) (sym t.is) g.2)

  map_length : length (mapped d r) ≡ r.shape.width * r.shape.height
  unfolding residual_with
  map_length =
      ap length (segmentation-is (searched d r) d.connect d.choice) ∙ length-map _ _ ∙ length-pixels (searched d r) ∙ plane_law d.empty r d.mesh d.flat plane

  same_map : joined_map r.shape tiles ≡ mapped d r
  unfolding joined_map
  same_map =
      same_number_lists (joined_map r.shape tiles) (mapped d r) (joined_length ∙ sym map_length)
      (λ p below. get_or-map-range_with_len (number_joined_at r.shape tiles) 0 (r.shape.width * r.shape.height) p p 0
      (omega (arith, below, joined_length)) (omega arith) ∙ number_same p)
    where
      joined_length : length (joined_map r.shape tiles) ≡ r.shape.width * r.shape.height
      joined_length = length-map-range_with_len (number_joined_at r.shape tiles) 0 (r.shape.width * r.shape.height)

pub joined_tiles_are_the_whole : ResidualIsPlane → PiecesGiveTheCatalogue → PiecesGiveTheMap → PartsOfCoresAreAnswered → JoinedTilesAreTheWhole
joined_tiles_are_the_whole plane_law catalogue_law map_law parts_law d r tiles plane made good = (
  same_catalogue plane_law catalogue_law map_law parts_law d r tiles plane made good,
  same_map plane_law catalogue_law map_law parts_law d r tiles plane made good,
)
