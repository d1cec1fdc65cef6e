-- Model: what detection in a window makes of an image.
use Rattle.std.specs.Prelude.{◌≡◌, ℕ, Bool, ◌&&◌, not, List, map, filter, Some, slice_get}
use Rattle.std.specs.List.{list_any}
use Rattle.comp_tree.specs.Raster.{Raster}
use Rattle.comp_tree.specs.Windows.{IsInside, is_in_box, seen_through}
use Rattle.source_pick.specs.declared.catalogue.CatRow.{CatRow}
use Rattle.source_pick.specs.Catalogue.{moved_row}
use Rattle.tile_laws.specs.declared.extents.Extent.{Extent}
use Rattle.tile_laws.specs.Extents.{extent_box}
use Rattle.tile_laws.specs.Pieces.{DetectionChoice, Piece, detected, mapped, first_pixel, AnswersForCore}
use Rattle.tile_join.specs.declared.tiles.Frame.{Frame}
use Rattle.tile_join.specs.declared.tiles.TileCatalogue.{TileCatalogue}
use Rattle.tile_join.specs.Tiles.{window_of, is_in_frame}

-- the rows of a window's image, moved to an image with so many columns; those whose first pixels lie in the core
unfoldable pub own_rows : DetectionChoice → ℕ → Frame → Frame → Raster → List CatRow
own_rows d width window core seen = filter (λ row. is_in_frame width core (first_pixel width row)) (map (moved_row (window_of window)) (detected d seen))

-- a pixel of an image with so many columns lies in the core and in none of the open boxes
unfoldable pub is_known_of : ℕ → Frame → List Extent → ℕ → Bool
is_known_of width core boxes p = is_in_frame width core p && not (list_any (λ e. is_in_box width (extent_box e) p) boxes)

-- the piece of an image with so many columns that a tile is, with these pixels alone as its core
abbrev pub known_piece_of : ℕ → TileCatalogue → Piece
known_piece_of width t = record { window = window_of t.window; core = is_known_of width t.core t.open.items }

-- the tile is what detection makes of its window of image r, and answers for the pixels of its core that lie in no open box
pub record IsTileMade (d : DetectionChoice) (r : Raster) (t : TileCatalogue) : Type 0 where
  pub whole : t.whole ≡ r.shape
  pub inside : IsInside r.shape (window_of t.window)
  pub rows : t.rows.items ≡ own_rows d r.shape.width t.window t.core (seen_through (window_of t.window) r)
  pub map : t.map.items ≡ mapped d (seen_through (window_of t.window) r)
  pub answers : AnswersForCore d r (known_piece_of r.shape.width t)

-- all tiles are made so of one image
abbrev pub AreTilesMade : DetectionChoice → Raster → List TileCatalogue → Type 0
AreTilesMade d r tiles = (i : ℕ) (t : TileCatalogue) → slice_get tiles i ≡ Some t → IsTileMade d r t
