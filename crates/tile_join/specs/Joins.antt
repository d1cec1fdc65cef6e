-- Model: the catalogue and the map that tiles give together.
use Rattle.std.specs.Prelude.{ℕ, ◌+◌, ◌-◌, ◌*◌, ◌/◌, ◌%◌, ◌==◌, cond, pos, List, map, filter, find, Option, None, unwrap_or, slice_index}
use Rattle.std.specs.Ordering.{int_eq}
use Rattle.std.specs.Option.{option_map, option_to_list}
use Rattle.std.specs.List.{flat_map, position_from, range_with_len}
use Rattle.comp_tree.specs.declared.shape.Shape.{Shape}
use Rattle.comp_tree.specs.Windows.{Window}
use Rattle.source_pick.specs.declared.catalogue.CatRow.{CatRow}
use Rattle.tile_laws.specs.Pieces.{first_pixel, numbered_rows}
use Rattle.tile_join.specs.declared.tiles.TileCatalogue.{TileCatalogue}
use Rattle.tile_join.specs.Tiles.{window_of, is_in_frame, rows_of_tiles}

-- the rows of all tiles whose first pixel this is, of an image with so many columns
unfoldable pub rows_first_at : ℕ → List TileCatalogue → ℕ → List CatRow
rows_first_at width tiles p = filter (λ row. first_pixel width row == p) (rows_of_tiles tiles)

-- all of them in the order of their first pixels
unfoldable pub rows_in_order : Shape → List TileCatalogue → List CatRow
rows_in_order whole tiles = flat_map (rows_first_at whole.width tiles) (range_with_len 0 (whole.width * whole.height))

-- the catalogue: they are numbered in this order, from 1
abbrev pub joined_rows : Shape → List TileCatalogue → List CatRow
joined_rows whole tiles = numbered_rows (rows_in_order whole tiles)

-- the number of a row there
unfoldable pub joined_number : Shape → List TileCatalogue → CatRow → ℕ
joined_number whole tiles row =
    unwrap_or (position_from (λ other. first_pixel whole.width other == first_pixel whole.width row) 1 (rows_in_order whole tiles)) 0

-- the tile's row with a number of its own map
unfoldable pub row_of_number : TileCatalogue → ℕ → Option CatRow
row_of_number t n = find (λ row. int_eq row.number (pos n)) t.rows.items

-- the number that pixel p of an image with so many columns has in a window that holds it
unfoldable pub in_window : ℕ → Window → ℕ → ℕ
in_window width w p = (p / width - w.top) * w.shape.width + (p % width - w.left)

-- the number that a tile gives pixel p, if it gives one: that of the row which its map names there
unfoldable pub number_from : Shape → List TileCatalogue → TileCatalogue → ℕ → Option ℕ
number_from whole tiles t p =
    cond (is_in_frame whole.width t.window p)
    (option_map (joined_number whole tiles) (row_of_number t (slice_index t.map.items (in_window whole.width (window_of t.window) p)))) None

-- the map: each pixel has the first number that a tile gives it, and 0 where none does
unfoldable pub number_joined_at : Shape → List TileCatalogue → ℕ → ℕ
number_joined_at whole tiles p = slice_index (flat_map (λ t. option_to_list (number_from whole tiles t p)) tiles) 0

unfoldable pub joined_map : Shape → List TileCatalogue → List ℕ
joined_map whole tiles = map (number_joined_at whole tiles) (range_with_len 0 (whole.width * whole.height))
