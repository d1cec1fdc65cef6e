-- Model: which rows of a piece are final, although nothing is known of other pieces.
use Rattle.std.specs.Prelude.{◌≡◌, ℕ, ◌+◌, ◌<◌, IsTrue, Bool, pos, ◌≤ℤ◌, List, Contains, Some, slice_get}
use Rattle.comp_tree.specs.Raster.{Raster, IsPlane}
use Rattle.comp_tree.specs.Components.{tree_of}
use Rattle.comp_tree.specs.Windows.{IsInside, Box, is_in_box, seen_through}
use Rattle.mesh_background.specs.Windows.{IsOnMesh}
use Rattle.node_sums.specs.Outlines.{outlines_in}
use Rattle.source_pick.specs.declared.catalogue.CatRow.{CatRow}
use Rattle.tile_laws.specs.declared.extents.Extent.{Extent}
use Rattle.tile_laws.specs.Clear.{IsBoxWithin, IsSureBox}
use Rattle.tile_laws.specs.Extents.{extent_box}
use Rattle.tile_laws.specs.Opening.{open_extents}
use Rattle.tile_laws.specs.Pieces.{DetectionChoice, Piece, searched, detected, AnswersForCore, IsFromPiece, row_with_number}
use Rattle.tile_laws.specs.SecondImage.{measured, backed, MeasuresItsCore}

-- a row is final: the image's catalogue has it at some place, counted from 0, with the number that belongs there
pub record IsFinalRow (d : DetectionChoice) (r : Raster) (row : CatRow) : Type 0 where
  pub place : ℕ
  pub at : slice_get (detected d r) place ≡ Some (row_with_number (place + 1) row)

-- the piece with another core
abbrev pub with_core : Piece → (ℕ → Bool) → Piece
with_core t core = record { window = t.window; core = core }

-- a pixel of an image with so many columns lies in one of the boxes
pub record LiesInABox (width : ℕ) (boxes : List Extent) (p : ℕ) : Type 0 where
  pub it : Extent
  pub among : Contains boxes it
  pub there : IsTrue (is_in_box width (extent_box it) p)

-- ---- laws

-- who answers for a core answers for a part of it
abbrev pub PartsOfCoresAreAnswered : Type 0
PartsOfCoresAreAnswered = (d : DetectionChoice) (r : Raster) (t : Piece) (core : ℕ → Bool) → AnswersForCore d r t
    → ((p : ℕ) → IsTrue (core p) → IsTrue (t.core p)) → AnswersForCore d r (with_core t core)

-- a piece some of whose components at the threshold are open answers for those pixels of its core that lie in none of their boxes, where the core lies
-- in a sure box
abbrev pub UnopenedPixelsAreAnswered : Type 0
UnopenedPixelsAreAnswered = (d : DetectionChoice) (r : Raster) (t : Piece) (core sure : Box) → IsPlane r → IsInside r.shape t.window
    → (0 < d.mesh → IsOnMesh d.mesh t.window) → IsSureBox d.empty r t.window d.flat d.mesh sure → IsBoxWithin sure core
    → ((p : ℕ) → IsTrue (t.core p) → IsTrue (is_in_box r.shape.width core p))
    → ((p : ℕ) → IsTrue (t.core p) → LiesInABox r.shape.width (open_extents d.choice.threshold (tree_of (searched d (seen_through t.window r)) d.connect).rows
    (outlines_in (searched d (seen_through t.window r)) d.connect) t.window.left t.window.top r.shape core sure) p → ⊥)
    → AnswersForCore d r t

-- the rows of one piece that answers for its core are final, whatever the rest of the image is
abbrev pub OwnRowsAreFinal : Type 0
OwnRowsAreFinal = (d : DetectionChoice) (r : Raster) (t : Piece) (row : CatRow) → IsPlane r → AnswersForCore d r t → IsFromPiece d r t row
    → IsFinalRow d r row

-- so are their measures in a second image of the same shape, where the background of that is known too, and their backs where the base is at
-- least the threshold: a parent below it may reach beyond any window
abbrev pub OwnMeasuresAreFinal : Type 0
OwnMeasuresAreFinal = (d : DetectionChoice) (r values : Raster) (t : Piece) (row : CatRow) (f : IsFromPiece d r t row) (i : ℕ)
    → IsPlane r → IsPlane values → values.shape ≡ r.shape → AnswersForCore d r t → MeasuresItsCore d r values t → f.it.number ≡ pos (i + 1)
    → (final : IsFinalRow d r row) × (measured d r values final.place ≡ measured d (seen_through t.window r) (seen_through t.window values) i)
    × (d.choice.threshold ≤ℤ row.base → backed d r values final.place ≡ backed d (seen_through t.window r) (seen_through t.window values) i)
