-- Bookkeeping: rows with their first pixels, in the order of these, and the numbers that they give.
use Rattle.std.specs.Prelude.{◌≡◌, ℕ, ◌+◌, ◌*◌, ◌<◌, ◌==◌, cond, pos, ◌≤ℤ◌, List, map, find, Some, slice_get, slice_index, unwrap_or}
use Rattle.std.specs.Ordering.{int_eq}
use Rattle.std.specs.Option.{option_map, option_to_list}
use Rattle.std.specs.List.{flat_map, position_from}
use Rattle.comp_tree.specs.declared.shape.Shape.{Shape}
use Rattle.comp_tree.specs.Windows.{in_whole}
use Rattle.source_pick.specs.declared.catalogue.CatRow.{CatRow}
use Rattle.tile_laws.specs.Pieces.{first_pixel}
use Rattle.tile_join.specs.declared.placing.PlacedRow.{PlacedRow}
use Rattle.tile_join.specs.declared.tiles.TileCatalogue.{TileCatalogue}
use Rattle.tile_join.specs.Tiles.{window_of, is_in_frame}
use Rattle.tile_join.specs.Joins.{in_window, number_from}

-- the row's first pixel is one of an image of this shape
pub record HasFirstIn (whole : Shape) (row : CatRow) : Type 0 where
  pub low_column : pos 1 ≤ℤ row.xfirst
  pub high_column : row.xfirst ≤ℤ pos whole.width
  pub low_row : pos 1 ≤ℤ row.yfirst
  pub high_row : row.yfirst ≤ℤ pos whole.height

-- so is that of each of these rows
abbrev pub HaveFirstsIn : Shape → List CatRow → Type 0
HaveFirstsIn whole rows = (i : ℕ) (row : CatRow) → slice_get rows i ≡ Some row → HasFirstIn whole row

-- the rows have numbers from 1 up to this one
abbrev pub HaveNumbersUpTo : ℕ → List CatRow → Type 0
HaveNumbersUpTo greatest rows = (i : ℕ) (row : CatRow) → slice_get rows i ≡ Some row → (pos 1 ≤ℤ row.number) × (row.number ≤ℤ pos greatest)

-- a row with its first pixel, in an image with so many columns
abbrev pub placed_row : ℕ → CatRow → PlacedRow
placed_row width row = record { first = first_pixel width row; row = row }

-- rows alone
abbrev pub rows_of_placed : List PlacedRow → List CatRow
rows_of_placed placed = map (λ (s : PlacedRow). s.row) placed

-- each first pixel is below that of the next row
abbrev pub AreFirstsRising : List PlacedRow → Type 0
AreFirstsRising placed = (i j : ℕ) (a b : PlacedRow) → i < j → slice_get placed i ≡ Some a → slice_get placed j ≡ Some b → a.first < b.first

-- rows with their first pixels, in the order of these
pub record ArePlacedInOrder (whole : Shape) (placed : List PlacedRow) : Type 0 where
  pub firsts : (i : ℕ) (a : PlacedRow) → slice_get placed i ≡ Some a → a ≡ placed_row whole.width a.row
  pub below : (i : ℕ) (a : PlacedRow) → slice_get placed i ≡ Some a → a.first < whole.width * whole.height
  pub rising : AreFirstsRising placed

-- pixel p is the first one of two of these rows, one behind the other
pub record IsFirstTwice (placed : List PlacedRow) (p : ℕ) : Type 0 where
  pub it : ℕ
  pub one : PlacedRow
  pub next : PlacedRow
  pub at : slice_get placed it ≡ Some one
  pub next_at : slice_get placed (it + 1) ≡ Some next
  pub first : one.first ≡ p
  pub next_first : next.first ≡ p

-- no two rows have the same first pixel, in an image with so many columns
abbrev pub AreFirstsDistinct : ℕ → List CatRow → Type 0
AreFirstsDistinct width rows = (i j : ℕ) (row other : CatRow) → i < j → slice_get rows i ≡ Some row → slice_get rows j ≡ Some other
    → first_pixel width row ≡ first_pixel width other → ⊥

-- the number of a row among rows that are numbered from 1: that of the first one with its first pixel, and 0 where there is none
unfoldable pub number_among : ℕ → List CatRow → CatRow → ℕ
number_among width rows row = unwrap_or (position_from (λ other. first_pixel width other == first_pixel width row) 1 rows) 0

-- the number among rows of the first of a tile's own rows that has number n there
unfoldable pub number_named : ℕ → List CatRow → List CatRow → ℕ → ℕ
number_named width rows own n = unwrap_or (option_map (number_among width rows) (find (λ row. int_eq row.number (pos n)) own)) 0

-- a table has these numbers of a tile
abbrev pub HasTable : ℕ → List CatRow → TileCatalogue → List ℕ → Type 0
HasTable width rows t table = (n : ℕ) → slice_index table n ≡ number_named width rows t.rows.items n

-- a number but 0, or else the other one
abbrev pub number_or : ℕ → ℕ → ℕ
number_or n other = cond (n == 0) other n

-- from map `old` to map `new`: the first pixels of the tile's window, so many, have the numbers that its table gives, where they had none
pub record AreFirstWritten (width : ℕ) (t : TileCatalogue) (table : List ℕ) (count : ℕ) (old new : List ℕ) : Type 0 where
  pub inside : (q : ℕ) → q < count → slice_index new (in_whole width (window_of t.window) q)
      ≡ number_or (slice_index old (in_whole width (window_of t.window) q)) (slice_index table (slice_index t.map.items q))
  pub outside : (p : ℕ) → ((q : ℕ) → q < count → in_whole width (window_of t.window) q ≡ p → ⊥) → slice_index new p ≡ slice_index old p

-- the number that a tile gives pixel p by its table, and 0 where it gives none
unfoldable pub number_given : ℕ → TileCatalogue → List ℕ → ℕ → ℕ
number_given width t table p =
    cond (is_in_frame width t.window p) (slice_index table (slice_index t.map.items (in_window width (window_of t.window) p))) 0

-- each pixel of the image has the first number that the first tiles give it, so many, and 0 where they give none
abbrev pub AreJoinedNumbers : Shape → List TileCatalogue → List TileCatalogue → List ℕ → Type 0
AreJoinedNumbers whole tiles front numbers = (p : ℕ) → p < whole.width * whole.height
    → slice_index numbers p ≡ slice_index (flat_map (λ t. option_to_list (number_from whole tiles t p)) front) 0
