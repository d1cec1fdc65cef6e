-- Frames of an image, and the pixels that they have there.
use Rattle.std.proofs.Common.{◌≡◌, ℕ, ◌+◌, ◌-◌, ◌*◌, ◌/◌, ◌%◌, ◌<◌, [], ◌&&◌, ◌==◌, true, length, ◌∙◌, ap, subst, arith}
use Rattle.std.specs.Prelude.{IsTrue, nat_le}
use Rattle.std.specs.List.{list_all}
use Rattle.std.proofs.lemmas.Bool.{and_parts, leb-true, eqb-true}
use Rattle.std.proofs.lemmas.Nat.{div-add-mod', mod_below, div_below}
use Rattle.comp_tree.specs.declared.shape.Shape.{Shape}
use Rattle.comp_tree.specs.Raster.{Raster}
use Rattle.comp_tree.specs.Windows.{Window, IsInside, in_whole}
use Rattle.comp_tree.proofs.Exported.{IsAt, in_whole-at, in_whole-below, some_columns}
use Rattle.tile_laws.specs.Clear.{window_box}
use Rattle.tile_laws.proofs.Exported.{IsPlacedIn, placed_in, in_from_placed, IsSeenAt, seen_at}
use Rattle.tile_join.specs.declared.tiles.Frame.{Frame}
use Rattle.tile_join.specs.declared.tiles.TileCatalogue.{TileCatalogue}
use Rattle.tile_join.specs.Tiles.{window_of, is_in_frame, is_frame_of, fits_tile, fits_image}
use Rattle.tile_join.specs.Joins.{in_window}

-- ---- what fits an image

-- a frame of the image is a window of it
pub inside_from_frame : (whole : Shape) (f : Frame) → is_frame_of whole f ≡ true → IsInside whole (window_of f)
unfolding is_frame_of
inside_from_frame whole f k =
    let e : (nat_le (f.left + f.shape.width) whole.width ≡ true) × (nat_le (f.top + f.shape.height) whole.height ≡ true) =
    and_parts (nat_le (f.left + f.shape.width) whole.width) (nat_le (f.top + f.shape.height) whole.height) k in
    record {
      columns = leb-true (f.left + f.shape.width) whole.width e.0;
      rows = leb-true (f.top + f.shape.height) whole.height e.1;
    }

-- a tile that fits the image, part by part
pub record IsFitting (whole : Shape) (t : TileCatalogue) : Type 0 where
  pub window : IsInside whole (window_of t.window)
  pub core : IsInside whole (window_of t.core)
  pub pixels : length t.map.items ≡ t.window.shape.width * t.window.shape.height
  pub rows : list_all (fits_tile whole t) t.rows.items ≡ true

pub fitting_parts : (whole : Shape) (t : TileCatalogue) → fits_image whole t ≡ true → IsFitting whole t
unfolding fits_image
fitting_parts whole t k = record {
  window = inside_from_frame whole t.window d.1;
  core = inside_from_frame whole t.core c.1;
  pixels = eqb-true (length t.map.items) (t.window.shape.width * t.window.shape.height) b.1;
  rows = a.1;
}
  where
    a : (((t.whole.width == whole.width) && (t.whole.height == whole.height) && is_frame_of whole t.window && is_frame_of whole t.core
        && (length t.map.items == t.window.shape.width * t.window.shape.height)) ≡ true) × (list_all (fits_tile whole t) t.rows.items ≡ true)
    a = and_parts ((t.whole.width == whole.width) && (t.whole.height == whole.height) && is_frame_of whole t.window && is_frame_of whole t.core
        && (length t.map.items == t.window.shape.width * t.window.shape.height)) (list_all (fits_tile whole t) t.rows.items) k

    b : (((t.whole.width == whole.width) && (t.whole.height == whole.height) && is_frame_of whole t.window && is_frame_of whole t.core) ≡ true)
        × ((length t.map.items == t.window.shape.width * t.window.shape.height) ≡ true)
    b = and_parts ((t.whole.width == whole.width) && (t.whole.height == whole.height) && is_frame_of whole t.window && is_frame_of whole t.core)
        (length t.map.items == t.window.shape.width * t.window.shape.height) a.0

    c : (((t.whole.width == whole.width) && (t.whole.height == whole.height) && is_frame_of whole t.window) ≡ true) × (is_frame_of whole t.core ≡ true)
    c = and_parts ((t.whole.width == whole.width) && (t.whole.height == whole.height) && is_frame_of whole t.window) (is_frame_of whole t.core) b.0

    d : (((t.whole.width == whole.width) && (t.whole.height == whole.height)) ≡ true) × (is_frame_of whole t.window ≡ true)
    d = and_parts ((t.whole.width == whole.width) && (t.whole.height == whole.height)) (is_frame_of whole t.window) c.0

-- ---- pixels

-- the frame's pixel that is pixel p of the image
pub record IsPixelOf (width : ℕ) (f : Frame) (p : ℕ) : Type 0 where
  pub it : ℕ
  pub below : it < f.shape.width * f.shape.height
  pub place : in_whole width (window_of f) it ≡ p

pub pixel_of : (whole : Shape) (f : Frame) (p : ℕ) → IsTrue (is_in_frame whole.width f p) → IsPixelOf whole.width f p
pixel_of whole f p k = record { it = s.it; below = s.below; place = s.place }
  where
    r : Raster
    r = record { shape = whole; values = [] }

    e : IsPlacedIn whole.width (window_box (window_of f)) p
    e = placed_in whole.width (window_box (window_of f)) p k

    s : IsSeenAt r (window_of f) p
    s = seen_at r (window_of f) p e.left e.right e.top e.bottom

-- each pixel of the frame lies in it
pub pixel_in_frame : (whole : Shape) (f : Frame) (q : ℕ) → IsInside whole (window_of f) → q < f.shape.width * f.shape.height
    → IsTrue (is_in_frame whole.width f (in_whole whole.width (window_of f) q))
pixel_in_frame whole f q i l =
    let at : IsAt whole.width f.shape.width f.left f.top (in_whole whole.width (window_of f) q) q = in_whole-at whole (window_of f) q i in
    let column : in_whole whole.width (window_of f) q % whole.width ≡ q % f.shape.width + f.left = at.column in
    let row : in_whole whole.width (window_of f) q / whole.width ≡ q / f.shape.width + f.top = at.row in
    let low : q % f.shape.width < f.shape.width = mod_below q f.shape.width (some_columns f.shape) in
    let high : q / f.shape.width < f.shape.height = div_below q f.shape.width f.shape.height (some_columns f.shape) (omega arith) in
    in_from_placed whole.width (window_box (window_of f)) (in_whole whole.width (window_of f) q) (record {
      left = omega (arith, column);
      right = omega (arith, column, low);
      top = omega (arith, row);
      bottom = omega (arith, row, high);
    })

-- the number that a pixel has in a window is that from which it was made
pub in_window-in_whole : (whole : Shape) (w : Window) (q : ℕ) → IsInside whole w → in_window whole.width w (in_whole whole.width w q) ≡ q
unfolding in_window
in_window-in_whole whole w q i =
    let at : IsAt whole.width w.shape.width w.left w.top (in_whole whole.width w q) q = in_whole-at whole w q i in
    let column : in_whole whole.width w q % whole.width - w.left ≡ q % w.shape.width = omega (arith, at.column) in
    let row : in_whole whole.width w q / whole.width - w.top ≡ q / w.shape.width = omega (arith, at.row) in
    ap (λ (n : ℕ). n * w.shape.width + (in_whole whole.width w q % whole.width - w.left)) row
    ∙ ap (λ (n : ℕ). q / w.shape.width * w.shape.width + n) column
    ∙ div-add-mod' q w.shape.width

-- a pixel of a frame is one of the image
pub frame_below : (whole : Shape) (f : Frame) (p : ℕ) → IsInside whole (window_of f) → IsTrue (is_in_frame whole.width f p) → p < whole.width * whole.height
frame_below whole f p i k =
    let s : IsPixelOf whole.width f p = pixel_of whole f p k in
    subst (λ (n : ℕ). n < whole.width * whole.height) s.place (in_whole-below whole (window_of f) s.it i s.below)
