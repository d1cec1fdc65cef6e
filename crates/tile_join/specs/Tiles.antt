-- Model: what windows tell of an image, and which of it can be joined.
use Rattle.std.specs.Prelude.{◌≡◌, ℕ, ◌+◌, ◌*◌, ◌<◌, ◌&&◌, ◌==◌, nat_le, Bool, true, false, IsTrue, pos, int_le, FitsSigned, List, [], length, Some, slice_get}
use Rattle.std.specs.List.{All, list_all, flat_map}
use Rattle.std.specs.Int.{w64}
use Rattle.comp_tree.specs.declared.shape.Shape.{Shape}
use Rattle.comp_tree.specs.Windows.{Window, is_in_box}
use Rattle.source_pick.specs.declared.catalogue.CatRow.{CatRow}
use Rattle.source_pick.specs.Catalogue.{cells_of, FitsColumns}
use Rattle.source_sheet.specs.Laid.{window_at}
use Rattle.tile_laws.specs.Clear.{window_box}
use Rattle.tile_laws.specs.Pieces.{first_pixel}
use Rattle.tile_join.specs.declared.tiles.Frame.{Frame}
use Rattle.tile_join.specs.declared.tiles.TileCatalogue.{TileCatalogue}
use Rattle.tile_join.specs.declared.fault.JoinFault.{JoinFault}
use Rattle.tile_join.specs.declared.fault.JoinFault.TheVariants.{NotOfImage, OpenComponent, CoresOverlap, CoreGap, SamePixel}
use Rattle.tile_join.specs.declared.fault.JoinStop.{JoinStop}
use Rattle.tile_join.specs.declared.fault.JoinStop.TheVariants.{Refused, NoMemory}

-- ---- frames

-- the window of an image that a frame is
abbrev pub window_of : Frame → Window
window_of f = window_at f.left f.top f.shape

-- pixel p of an image with so many columns lies in the frame
abbrev pub is_in_frame : ℕ → Frame → ℕ → Bool
is_in_frame width f p = is_in_box width (window_box (window_of f)) p

-- a frame lies in an image of this shape
unfoldable pub is_frame_of : Shape → Frame → Bool
is_frame_of whole f = nat_le (f.left + f.shape.width) whole.width && nat_le (f.top + f.shape.height) whole.height

-- ---- tiles of one image

-- a row can be one of the tile: its number can stand in the map, and its first pixel is one of the image
unfoldable pub fits_tile : Shape → TileCatalogue → CatRow → Bool
fits_tile whole t row =
    int_le (pos 1) row.number && int_le row.number (pos (length t.map.items))
    && (int_le (pos 1) row.xfirst && int_le row.xfirst (pos whole.width))
    && (int_le (pos 1) row.yfirst && int_le row.yfirst (pos whole.height))

-- a tile can be one of an image of this shape
unfoldable pub fits_image : Shape → TileCatalogue → Bool
fits_image whole t =
    (t.whole.width == whole.width) && (t.whole.height == whole.height) && is_frame_of whole t.window && is_frame_of whole t.core
    && (length t.map.items == t.window.shape.width * t.window.shape.height) && list_all (fits_tile whole t) t.rows.items

-- ---- rows

-- the rows of all tiles
abbrev pub rows_of_tiles : List TileCatalogue → List CatRow
rows_of_tiles tiles = flat_map (λ t. t.rows.items) tiles

-- pixel p is the first one of two rows, at different places
pub record IsFirstOfTwo (width : ℕ) (rows : List CatRow) (p : ℕ) : Type 0 where
  pub one : ℕ
  pub other : ℕ
  pub row : CatRow
  pub other_row : CatRow
  pub apart : one < other
  pub at : slice_get rows one ≡ Some row
  pub other_at : slice_get rows other ≡ Some other_row
  pub first : first_pixel width row ≡ p
  pub other_first : first_pixel width other_row ≡ p

-- the numbers of a row fit the columns of a catalogue, and 64 bits: it can be written
pub record IsWritableRow (row : CatRow) : Type 0 where
  pub columns : FitsColumns row
  pub whole : All (FitsSigned w64) (cells_of row)

-- ---- what is amiss

-- tile i is there, and this holds of it
abbrev pub IsSoAt : List TileCatalogue → ℕ → (TileCatalogue → Type 0) → Type 0
IsSoAt tiles i P = (t : TileCatalogue) × (slice_get tiles i ≡ Some t) × P t

-- an earlier tile than number i has pixel p in its core
abbrev pub IsOfEarlierCore : ℕ → List TileCatalogue → ℕ → ℕ → Type 0
IsOfEarlierCore width tiles i p = (j : ℕ) × (j < i) × IsSoAt tiles j (λ t. IsTrue (is_in_frame width t.core p))

-- the fault is there
abbrev pub HasJoinFault : Shape → List TileCatalogue → JoinFault → Type 0
HasJoinFault whole tiles (NotOfImage tile) = IsSoAt tiles tile (λ t. fits_image whole t ≡ false)
HasJoinFault whole tiles (OpenComponent tile) = IsSoAt tiles tile (λ t. 0 < length t.open.items)
HasJoinFault whole tiles (CoresOverlap tile) =
    IsSoAt tiles tile (λ t. (p : ℕ) × IsTrue (is_in_frame whole.width t.core p) × IsOfEarlierCore whole.width tiles tile p)
HasJoinFault whole tiles (CoreGap pixel) =
    (pixel < whole.width * whole.height)
    × ((i : ℕ) (t : TileCatalogue) → slice_get tiles i ≡ Some t → is_in_frame whole.width t.core pixel ≡ false)
HasJoinFault whole tiles (SamePixel pixel) = IsFirstOfTwo whole.width (rows_of_tiles tiles) pixel

-- what came between is so
abbrev pub IsStopOf : Shape → List TileCatalogue → JoinStop → Type 0
IsStopOf whole tiles (Refused fault) = HasJoinFault whole tiles fault
IsStopOf whole tiles NoMemory = Unit {0}

-- nothing is amiss
pub record AreJoinable (whole : Shape) (tiles : List TileCatalogue) : Type 0 where
  pub fit : (i : ℕ) (t : TileCatalogue) → slice_get tiles i ≡ Some t → fits_image whole t ≡ true
  pub known : (i : ℕ) (t : TileCatalogue) → slice_get tiles i ≡ Some t → t.open.items ≡ []
  pub apart : (p i j : ℕ) (t u : TileCatalogue) → slice_get tiles i ≡ Some t → slice_get tiles j ≡ Some u
      → IsTrue (is_in_frame whole.width t.core p) → IsTrue (is_in_frame whole.width u.core p) → i ≡ j
  pub cover : (p : ℕ) → p < whole.width * whole.height → (i : ℕ) × IsSoAt tiles i (λ t. IsTrue (is_in_frame whole.width t.core p))
  pub distinct : (i j : ℕ) (row other : CatRow) → i < j → slice_get (rows_of_tiles tiles) i ≡ Some row → slice_get (rows_of_tiles tiles) j ≡ Some other
      → first_pixel whole.width row ≡ first_pixel whole.width other → ⊥
