-- Bookkeeping: the bounds of a cell, by which the code goes over its pixels.
use Rattle.std.specs.Prelude.{◌≡◌, ℕ, ◌+◌, ◌*◌, ◌/◌, ◌%◌, ◌<◌, min}
use Rattle.mesh_background.specs.Mesh.{cells_along}

-- the bounds of cell k in an image of this width and height: it has the columns from left up to right and the rows from top
-- up to bottom, and at least one of each
pub record IsCell (mesh width height k left right top bottom : ℕ) : Type 0 where
  pub left_is : left ≡ k % cells_along mesh width * mesh
  pub right_is : right ≡ min (left + mesh) width
  pub top_is : top ≡ k / cells_along mesh width * mesh
  pub bottom_is : bottom ≡ min (top + mesh) height
  pub some_columns : left < right
  pub some_rows : top < bottom
