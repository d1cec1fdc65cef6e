-- Model: in which box of an image a window of it shows all on which the background of a pixel depends.
use Rattle.std.specs.Prelude.{◌≡◌, ℕ, ◌+◌, ◌-◌, ◌*◌, ◌/◌, ◌<◌, ◌≤◌, Bool, ◌||◌, ◌==◌, if◌then◌else◌, ℤ, Option, None, IsTrue}
use Rattle.comp_tree.specs.declared.shape.Shape.{Shape}
use Rattle.comp_tree.specs.Raster.{Raster, is_defined}
use Rattle.comp_tree.specs.Windows.{Window, Box, in_whole, is_in_box, seen_through}
use Rattle.mesh_background.specs.Windows.{HasDefinedCellsIn}

-- Along a side of `whole` pixels, of which a window has those from `corner` up to `end`: the background depends on cells that lie whole in
-- the window from this pixel on, and up to that one. At the image's own edges that is so up to the edge. Elsewhere a flat background wants
-- the pixel's own cell, and a smooth one a cell and a half more. Without a mesh it is the window itself
unfoldable pub clear_from : Bool → ℕ → ℕ → ℕ
clear_from flat mesh corner = if flat || (corner == 0) then corner else corner + (3 * mesh) / 2

unfoldable pub clear_to : Bool → ℕ → ℕ → ℕ → ℕ
clear_to flat mesh whole end = if (mesh == 0) || (end == whole) then end else last_clear
  where
    last_clear : ℕ
    last_clear = if flat then (end / mesh) * mesh else (end / mesh) * mesh - (3 * mesh + 1) / 2

-- the box of an image of this shape in which a window's background is the image's, as far as cells lie whole in it
abbrev pub clear_box : Bool → ℕ → Shape → Window → Box
clear_box flat mesh whole w = record {
  left = clear_from flat mesh w.left;
  right = clear_to flat mesh whole.width (w.left + w.shape.width);
  top = clear_from flat mesh w.top;
  bottom = clear_to flat mesh whole.height (w.top + w.shape.height);
}

-- the box of the window itself
abbrev pub window_box : Window → Box
window_box w = record {
  left = w.left;
  right = w.left + w.shape.width;
  top = w.top;
  bottom = w.top + w.shape.height;
}

-- a box lies in another one
pub record IsBoxWithin (outer inner : Box) : Type 0 where
  pub left : outer.left ≤ inner.left
  pub right : inner.right ≤ outer.right
  pub top : outer.top ≤ inner.top
  pub bottom : inner.bottom ≤ outer.bottom

-- a box of the image in which the background of each pixel with a value is the same in the window: it lies in the clear box, and each cell
-- on which such a pixel depends has a pixel with a value in the window, or a number is given for those that haven't. (With a flat background
-- the second is always so.)
pub record IsSureBox (empty : Option ℤ) (r : Raster) (w : Window) (flat : Bool) (mesh : ℕ) (box : Box) : Type 0 where
  pub clear : IsBoxWithin (clear_box flat mesh r.shape w) box
  pub defined : empty ≡ None → (q : ℕ) → 0 < mesh → IsTrue (is_in_box r.shape.width box (in_whole r.shape.width w q))
      → IsTrue (is_defined (seen_through w r) q) → HasDefinedCellsIn (seen_through w r) w flat mesh q
