-- Model: the law of windows: where the corner of a window stands on the mesh, and the cells on which a pixel's background depends lie
-- whole in it, the background is the same in the window. Unless a number is given for cells without a defined pixel, these cells
-- have to have one each, since the number of another one is the whole image's.
use Rattle.std.specs.Prelude.{◌≡◌, ℕ, ◌+◌, ◌*◌, ◌/◌, ◌%◌, ◌<◌, ◌≤◌, ◌⊎◌, Bool, true, false, ℤ, Option, None, IsTrue}
use Rattle.comp_tree.specs.Raster.{Raster, IsPlane, is_defined, value_at}
use Rattle.comp_tree.specs.Windows.{Shows, Window, IsInside, in_whole, seen_through}
use Rattle.mesh_background.specs.Mesh.{cells_along, mesh_cell_of}
use Rattle.mesh_background.specs.Interpolation.{next_cell}
use Rattle.mesh_background.specs.Residuals.{background, residual_with}

-- Along a side: the window has `side` of `whole` pixels, from `corner` on. Cells are counted in the whole.

-- cell c lies in the window, whole or up to the image's own edge
pub record IsWholeCell (mesh corner side whole c : ℕ) : Type 0 where
  pub low : corner ≤ c * mesh
  pub high : ((c + 1) * mesh ≤ corner + side) ⊎ (corner + side ≡ whole)

-- the background of pixel x depends on the number of cell c: flat, it is its cell; smooth, one of those between which its centre lies,
-- or one beside these
abbrev pub IsNeeded : Bool → ℕ → ℕ → ℕ → Type 0
IsNeeded true mesh x c = x / mesh ≡ c
IsNeeded false mesh x c = (next_cell mesh x ≤ c + 2) × (c ≤ next_cell mesh x + 1)

-- each cell that it depends on lies so
abbrev pub IsClearAlong : Bool → ℕ → ℕ → ℕ → ℕ → ℕ → Type 0
IsClearAlong flat mesh corner side whole x = (c : ℕ) → c < cells_along mesh whole → IsNeeded flat mesh x c → IsWholeCell mesh corner side whole c

-- each cell has a defined pixel, of those on which pixel p depends
abbrev pub HasDefinedCells : Raster → Bool → ℕ → ℕ → Type 0
HasDefinedCells r flat mesh p = (c d : ℕ) → c < cells_along mesh r.shape.width → d < cells_along mesh r.shape.height
    → IsNeeded flat mesh (p % r.shape.width) c → IsNeeded flat mesh (p / r.shape.width) d
    → (a : ℕ) × IsTrue (is_defined r a) × (mesh_cell_of mesh r.shape.width a ≡ d * cells_along mesh r.shape.width + c)

-- the window stands on the mesh
pub record IsOnMesh (mesh : ℕ) (w : Window) : Type 0 where
  pub columns : w.left % mesh ≡ 0
  pub rows : w.top % mesh ≡ 0

-- all on which the background of pixel p of the whole depends is seen through the window
pub record IsClear (empty : Option ℤ) (r : Raster) (w : Window) (flat : Bool) (mesh p : ℕ) : Type 0 where
  pub across : IsClearAlong flat mesh w.left w.shape.width r.shape.width (p % r.shape.width)
  pub along : IsClearAlong flat mesh w.top w.shape.height r.shape.height (p / r.shape.width)
  pub defined : empty ≡ None → HasDefinedCells r flat mesh p

-- so the background is the same, and so is the residual
abbrev pub BackgroundIsSeen : Type 0
BackgroundIsSeen = (empty : Option ℤ) (r : Raster) (w : Window) (flat : Bool) (mesh q : ℕ) → IsPlane r → IsInside r.shape w → 0 < mesh → IsOnMesh mesh w
    → q < w.shape.width * w.shape.height → IsClear empty r w flat mesh (in_whole r.shape.width w q)
    → background empty (seen_through w r) mesh flat q ≡ background empty r mesh flat (in_whole r.shape.width w q)

abbrev pub ResidualIsSeen : Type 0
ResidualIsSeen = (empty : Option ℤ) (r : Raster) (w : Window) (flat : Bool) (mesh q : ℕ) → IsPlane r → IsInside r.shape w → 0 < mesh → IsOnMesh mesh w
    → q < w.shape.width * w.shape.height → IsClear empty r w flat mesh (in_whole r.shape.width w q)
    → value_at (residual_with empty (seen_through w r) mesh flat).values q ≡ value_at (residual_with empty r mesh flat).values (in_whole r.shape.width w q)

-- and the window's residual shows the whole's wherever this is so
abbrev pub ResidualIsShown : Type 0
ResidualIsShown = (empty : Option ℤ) (r : Raster) (w : Window) (flat : Bool) (mesh : ℕ) (sure : ℕ → Bool) → IsPlane r → IsInside r.shape w → 0 < mesh → IsOnMesh mesh w
    → ((p : ℕ) → IsTrue (sure p) → (q : ℕ) × (q < w.shape.width * w.shape.height) × (in_whole r.shape.width w q ≡ p) × IsClear empty r w flat mesh p)
    → Shows (residual_with empty r mesh flat) (residual_with empty (seen_through w r) mesh flat) w sure

-- each cell that is seen through the window and on which its pixel q depends has a defined pixel there
abbrev pub HasDefinedCellsIn : Raster → Window → Bool → ℕ → ℕ → Type 0
HasDefinedCellsIn s w flat mesh q = (c d : ℕ) → c < cells_along mesh w.shape.width → d < cells_along mesh w.shape.height
    → IsNeeded flat mesh (q % w.shape.width + w.left) (c + w.left / mesh) → IsNeeded flat mesh (q / w.shape.width + w.top) (d + w.top / mesh)
    → (b : ℕ) × IsTrue (is_defined s b) × (mesh_cell_of mesh w.shape.width b ≡ d * cells_along mesh w.shape.width + c)

-- so that all this is told from the window alone
abbrev pub ClearIsToldFromTheWindow : Type 0
ClearIsToldFromTheWindow = (empty : Option ℤ) (r : Raster) (w : Window) (flat : Bool) (mesh q : ℕ) → IsPlane r → IsInside r.shape w → 0 < mesh → IsOnMesh mesh w
    → IsClearAlong flat mesh w.left w.shape.width r.shape.width (q % w.shape.width + w.left)
    → IsClearAlong flat mesh w.top w.shape.height r.shape.height (q / w.shape.width + w.top)
    → (empty ≡ None → HasDefinedCellsIn (seen_through w r) w flat mesh q) → IsClear empty r w flat mesh (in_whole r.shape.width w q)
