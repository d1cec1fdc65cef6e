-- Bookkeeping: what the checks of a sheet find, pixel by pixel.
use Rattle.std.specs.Prelude.{◌≡◌, ℕ, ◌+◌, ◌*◌, ◌<◌, ◌≤◌, Bool, false, IsTrue, ℤ, List, length, Contains, Some, slice_get}
use Rattle.comp_tree.specs.declared.shape.Connect.{Connect}
use Rattle.comp_tree.specs.declared.shape.Shape.{Shape}
use Rattle.comp_tree.specs.Raster.{Raster, IsPlane, value_at}
use Rattle.comp_tree.specs.Marks.{is_marked}
use Rattle.comp_tree.specs.Grid.{distance, are_linked, are_neighbours, IsAdjacency}
use Rattle.comp_tree.specs.Windows.{Window, IsInside, in_whole}
use Rattle.source_pick.specs.Sheets.{WindowPair, IsCopied, window_size, is_high_there}
use Rattle.source_sheet.specs.declared.sheet.Place.{Place}
use Rattle.source_sheet.specs.Laid.{windows_of, AreApartThere, AreHeldOnce, HoldsPixel}

-- ---- places

-- both windows of a place lie in their images
pub record LiesInBoth (whole onto : Shape) (c : Place) : Type 0 where
  pub from : IsInside whole (windows_of c).from
  pub to : IsInside onto (windows_of c).to

-- so do those of each place
abbrev pub LieInBoth : Shape → Shape → List Place → Type 0
LieInBoth whole onto places = (i : ℕ) (c : Place) → slice_get places i ≡ Some c → LiesInBoth whole onto c

-- pixel p of an image with so many columns lies in the window
pub record IsInWindow (width : ℕ) (w : Window) (p : ℕ) : Type 0 where
  pub it : ℕ
  pub below : it < window_size w
  pub place : in_whole width w it ≡ p

-- ---- copies

-- what is adjacent to pixel p lies in the window
abbrev pub StaysWithin : Raster → Connect → Window → ℕ → Type 0
StaysWithin r connect w p = (a : ℕ) → IsAdjacency r.values r.shape.width connect p a → IsInWindow r.shape.width w a

-- the pixel in this column and row of a window of this shape isn't at its edge
pub record LiesInside (shape : Shape) (column row : ℕ) : Type 0 where
  pub left : 0 < column
  pub right : column + 1 < shape.width
  pub top : 0 < row
  pub bottom : row + 1 < shape.height

-- pixel q of the windows has the same value in both planes, or none
abbrev pub IsSameAt : Raster → Raster → WindowPair → ℕ → Type 0
IsSameAt r s c q = value_at r.values (in_whole r.shape.width c.from q) ≡ value_at s.values (in_whole s.shape.width c.to q)

-- so have those of a row from the column `first` up to `end`
pub record IsRowSame (r s : Raster) (c : WindowPair) (row first end : ℕ) : Type 0 where
  pub each : (column : ℕ) → first ≤ column → column < end → IsSameAt r s c (row * c.to.shape.width + column)

-- and so have the pixel in this column and row and its neighbours, as far as they stand in rows above the end
pub record AreSameAround (r s : Raster) (connect : Connect) (c : WindowPair) (column row end : ℕ) : Type 0 where
  pub own : row < end → IsSameAt r s c (row * c.to.shape.width + column)
  pub beside : (x y : ℕ) → x < c.to.shape.width → y < end → IsTrue (are_linked connect (distance column x) (distance row y))
      → IsSameAt r s c (y * c.to.shape.width + x)

-- pixel q of the windows is a copy, with what is around it
pub record IsPixelCopied (r s : Raster) (connect : Connect) (c : WindowPair) (q : ℕ) : Type 0 where
  pub same : IsSameAt r s c q
  pub beside : (b : ℕ) → b < window_size c.to → IsTrue (are_neighbours connect c.to.shape.width q b) → IsSameAt r s c b
  pub beyond : StaysWithin r connect c.from (in_whole r.shape.width c.from q)
  pub beyond_sheet : StaysWithin s connect c.to (in_whole s.shape.width c.to q)

-- so is each pixel of at least h from the first one up to the end
pub record ArePixelsCopied (r s : Raster) (connect : Connect) (h : ℤ) (c : WindowPair) (first end : ℕ) : Type 0 where
  pub each : (q : ℕ) → first ≤ q → q < end → IsTrue (is_high_there s h c.to q) → IsPixelCopied r s connect c q

-- none of the pixels of the window from the first one up to the end has at least h
abbrev pub AreLowThere : Raster → ℤ → Window → ℕ → ℕ → Type 0
AreLowThere s h w first end = (q : ℕ) → first ≤ q → q < end → IsTrue (is_high_there s h w q) → ⊥

-- what is adjacent to the pixels of this row from the column `first` up to `end` lies in the windows
pub record AreWithin (r s : Raster) (connect : Connect) (c : WindowPair) (row first end : ℕ) : Type 0 where
  pub beyond : (x : ℕ) → first ≤ x → x < end → StaysWithin r connect c.from (in_whole r.shape.width c.from (row * c.to.shape.width + x))
  pub beyond_sheet : (x : ℕ) → first ≤ x → x < end → StaysWithin s connect c.to (in_whole s.shape.width c.to (row * c.to.shape.width + x))

-- ---- marks

-- no pixel that lies there had a mark, each has one now, and other marks are kept
pub record AreNewlyMarked (old new : List Bool) (LiesThere : ℕ → Type 0) : Type 0 where
  pub same_length : length new ≡ length old
  pub kept : (p : ℕ) → IsTrue (is_marked old p) → IsTrue (is_marked new p)
  pub free : (p : ℕ) → LiesThere p → is_marked old p ≡ false
  pub all : (p : ℕ) → LiesThere p → IsTrue (is_marked new p)

-- p is one of the pixels from the first one up to the end
pub record IsBetween (first end p : ℕ) : Type 0 where
  pub low : first ≤ p
  pub high : p < end

-- p lies in one of the first rows of the window
pub record IsInRows (width : ℕ) (w : Window) (rows p : ℕ) : Type 0 where
  pub row : ℕ
  pub below : row < rows
  pub low : (row + w.top) * width + w.left ≤ p
  pub high : p < (row + w.top) * width + (w.left + w.shape.width)

-- each pixel of the first places has a mark, and none lies in two of them
pub record AreAllApart (width : ℕ) (places : List Place) (count : ℕ) (marks : List Bool) : Type 0 where
  pub marked : (i p : ℕ) (c : Place) → i < count → slice_get places i ≡ Some c → IsInRows width (windows_of c).to c.shape.height p → IsTrue (is_marked marks p)
  pub apart : (i j p : ℕ) (c e : Place) → i < count → j < count → slice_get places i ≡ Some c → slice_get places j ≡ Some e
      → IsInRows width (windows_of c).to c.shape.height p → IsInRows width (windows_of e).to e.shape.height p → i ≡ j

-- ---- a sheet

-- each of the first places is a copy
abbrev pub AreAllCopied : Raster → Raster → Connect → ℤ → List Place → ℕ → Type 0
AreAllCopied r s connect h places count = (i : ℕ) (c : Place) → i < count → slice_get places i ≡ Some c → IsCopied r s connect h (windows_of c)

-- the places are copies, none overlaps another one, and they hold each listed pixel
pub record AreGoodPlaces (r s : Raster) (connect : Connect) (h : ℤ) (places : List Place) (listed : List ℕ) : Type 0 where
  pub one_each : IsPlane r
  pub one_each_there : IsPlane s
  pub copied : AreAllCopied r s connect h places (length places)
  pub apart_there : AreApartThere s places
  pub apart : AreHeldOnce r s h places
  pub held : (p : ℕ) → Contains listed p → (i : ℕ) × ((c : Place) × (slice_get places i ≡ Some c) × HoldsPixel r s h c p)
