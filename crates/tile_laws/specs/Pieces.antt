-- Model: an image in pieces. Detection runs over the window of each piece alone, and the rows whose first pixels lie in the piece's core
-- are put together.
use Rattle.std.specs.Prelude.{◌≡◌, ℕ, ◌+◌, ◌-◌, ◌*◌, ◌<◌, Bool, true, IsTrue, ℤ, pos, unsigned_abs, Option, None, List, map, Contains, Some, slice_get, slice_index}
use Rattle.std.specs.List.{enumerate_from}
use Rattle.comp_tree.specs.declared.shape.Connect.{Connect}
use Rattle.comp_tree.specs.declared.shape.Shape.{Shape}
use Rattle.comp_tree.specs.Raster.{Raster, is_at_least}
use Rattle.comp_tree.specs.Components.{IsReached}
use Rattle.comp_tree.specs.Windows.{Window, IsInside, Box, in_whole, is_in_box, seen_through, IsDeepIn}
use Rattle.mesh_background.specs.Residuals.{residual_with}
use Rattle.mesh_background.specs.Windows.{IsOnMesh}
use Rattle.source_pick.specs.declared.choice.Choice.{Choice}
use Rattle.source_pick.specs.declared.catalogue.CatRow.{CatRow}
use Rattle.source_pick.specs.Catalogue.{catalogue}
use Rattle.source_pick.specs.Segmentation.{segmentation}
use Rattle.source_pick.specs.Catalogue.{moved_row}
use Rattle.tile_laws.specs.Clear.{window_box, IsSureBox}

-- what detection is told: the size of the mesh (0: no background), whether the background is flat, the number of the mesh's cells without a
-- value, if one is given, the connectivity, and which nodes are sources
pub record DetectionChoice : Type 0 where
  pub mesh : ℕ
  pub flat : Bool
  pub empty : Option ℤ
  pub connect : Connect
  pub choice : Choice

-- the plane in which it finds sources: what is left of an image without its background
abbrev pub searched : DetectionChoice → Raster → Raster
searched d r = residual_with d.empty r d.mesh d.flat

-- and the catalogue that it makes of an image
abbrev pub detected : DetectionChoice → Raster → List CatRow
detected d r = catalogue (searched d r) d.connect d.choice

-- and the segmentation map
abbrev pub mapped : DetectionChoice → Raster → List ℕ
mapped d r = segmentation (searched d r) d.connect d.choice

-- a piece of an image: the window that is given to detection, and the core: which pixels of the image it answers for: whose sources it tells
pub record Piece : Type 0 where
  pub window : Window
  pub core : ℕ → Bool

-- ---- which pieces answer for their cores

-- pixel p of the image lies in a box in which the piece's background is the image's
pub record LiesInSureBox (empty : Option ℤ) (r : Raster) (w : Window) (flat : Bool) (mesh p : ℕ) : Type 0 where
  pub box : Box
  pub sure : IsSureBox empty r w flat mesh box
  pub there : IsTrue (is_in_box r.shape.width box p)

-- Pixel q of the piece has at least the threshold. Its component there lies deep in a box in which the piece's background is the image's:
-- with a pixel to spare, but for the image's own edges
pub record HasSureBox (d : DetectionChoice) (r : Raster) (t : Piece) (q : ℕ) : Type 0 where
  pub box : Box
  pub sure : IsSureBox d.empty r t.window d.flat d.mesh box
  pub deep : (b : ℕ) → IsReached (searched d (seen_through t.window r)) d.connect d.choice.threshold q b
      → IsDeepIn r.shape box (in_whole r.shape.width t.window b)

-- A piece answers for its core: its window lies in the image with its corner on the mesh, in its core the background is the image's, and
-- each component at the threshold that has a pixel in the core has such a box. Of the image this takes its shape and what the window shows
pub record AnswersForCore (d : DetectionChoice) (r : Raster) (t : Piece) : Type 0 where
  pub inside : IsInside r.shape t.window
  pub on_mesh : 0 < d.mesh → IsOnMesh d.mesh t.window
  pub core_sure : (p : ℕ) → IsTrue (t.core p) → LiesInSureBox d.empty r t.window d.flat d.mesh p
  pub components : (q : ℕ) → IsTrue (t.core (in_whole r.shape.width t.window q))
      → IsTrue (is_at_least (searched d (seen_through t.window r)) d.choice.threshold q) → HasSureBox d r t q

-- detection where no such number is given
abbrev pub without_number : DetectionChoice → DetectionChoice
without_number d = record d { empty = None }

-- detection without a background
abbrev pub without_mesh : Connect → Choice → DetectionChoice
without_mesh connect choice = record {
  mesh = 0;
  flat = true;
  empty = None;
  connect = connect;
  choice = choice;
}

-- There a piece answers for its core where this lies in the window, and each component at the threshold that has a pixel in the core lies deep
-- in the window
pub record ShowsItsCore (connect : Connect) (choice : Choice) (r : Raster) (t : Piece) : Type 0 where
  pub inside : IsInside r.shape t.window
  pub core_seen : (p : ℕ) → IsTrue (t.core p) → IsTrue (is_in_box r.shape.width (window_box t.window) p)
  pub components : (q b : ℕ) → IsTrue (t.core (in_whole r.shape.width t.window q))
      → IsTrue (is_at_least (seen_through t.window r) choice.threshold q) → IsReached (seen_through t.window r) connect choice.threshold q b
      → IsDeepIn r.shape (window_box t.window) (in_whole r.shape.width t.window b)

-- the cores cover an image of so many columns and rows
abbrev pub CoversImage : Shape → List Piece → Type 0
CoversImage whole pieces = (p : ℕ) → p < whole.width * whole.height → (t : Piece) × Contains pieces t × IsTrue (t.core p)

-- and no two of them share a pixel
abbrev pub CoresAreApart : Shape → List Piece → Type 0
CoresAreApart whole pieces = (p : ℕ) (t u : Piece) → Contains pieces t → Contains pieces u → IsTrue (t.core p)
    → IsTrue (u.core p) → t ≡ u

-- ---- how their catalogues are put together

-- the first pixel of a source, from its row in the catalogue of an image with so many columns
abbrev pub first_pixel : ℕ → CatRow → ℕ
first_pixel width row = (unsigned_abs row.yfirst - 1) * width + (unsigned_abs row.xfirst - 1)

-- the piece's row `it`, moved to its place in the image; its first pixel lies in the core
pub record IsFromPiece (d : DetectionChoice) (r : Raster) (t : Piece) (row : CatRow) : Type 0 where
  pub it : CatRow
  pub listed : Contains (detected d (seen_through t.window r)) it
  pub moved : row ≡ moved_row t.window it
  pub own : IsTrue (t.core (first_pixel r.shape.width row))

-- all these rows of all pieces, in the order of their first pixels
pub record AreMerged (d : DetectionChoice) (r : Raster) (pieces : List Piece) (rows : List CatRow) : Type 0 where
  pub each : (row : CatRow) → Contains rows row → (t : Piece) × Contains pieces t × IsFromPiece d r t row
  pub all : (t : Piece) (row : CatRow) → Contains pieces t → IsFromPiece d r t row → Contains rows row
  pub rise : (i j : ℕ) (row other : CatRow) → i < j → slice_get rows i ≡ Some row → slice_get rows j ≡ Some other
      → first_pixel r.shape.width row < first_pixel r.shape.width other

-- a row with another number
abbrev pub row_with_number : ℕ → CatRow → CatRow
row_with_number number row = record row { number = pos number }

-- rows, numbered from 1 on
unfoldable pub numbered_rows : List CatRow → List CatRow
numbered_rows rows = map (λ e. row_with_number e.0 e.1) (enumerate_from 1 rows)

-- Row k of the merged rows, counted from 0, is a row of the piece, and pixel p of the image has the number of this row in the piece's map
pub record IsMappedBy (d : DetectionChoice) (r : Raster) (rows : List CatRow) (t : Piece) (p k : ℕ) : Type 0 where
  pub pixel : ℕ
  pub below : pixel < t.window.shape.width * t.window.shape.height
  pub place : in_whole r.shape.width t.window pixel ≡ p
  pub row : CatRow
  pub at : slice_get rows k ≡ Some row
  pub from : IsFromPiece d r t row
  pub number : from.it.number ≡ pos (slice_index (mapped d (seen_through t.window r)) pixel)
