-- Model: a sheet as it is laid out: which places of the plane stand where on it, and that they have all that decides the plane's sources.
use Rattle.std.specs.Prelude.{◌≡◌, ℕ, ◌<◌, ◌⊎◌, IsTrue, ℤ, List, length, Contains, Some, slice_get}
use Rattle.comp_tree.specs.declared.shape.Connect.{Connect}
use Rattle.comp_tree.specs.Raster.{Raster, IsPlane, is_at_least}
use Rattle.comp_tree.specs.Components.{IsReached}
use Rattle.comp_tree.specs.ComponentTree.{ComponentTree}
use Rattle.comp_tree.specs.Components.{tree_of}
use Rattle.comp_tree.specs.declared.shape.Shape.{Shape}
use Rattle.comp_tree.specs.Windows.{Window, in_whole}
use Rattle.source_pick.specs.declared.choice.Choice.{Choice}
use Rattle.source_pick.specs.Sheets.{WindowPair, Part, IsCopied, IsHeld, part_at, window_size}
use Rattle.source_sheet.specs.declared.sheet.Place.{Place}
use Rattle.source_sheet.specs.declared.sheet.Sheet.{Sheet}

-- the window of this shape whose first pixel stands in column `left` of row `top`
abbrev pub window_at : ℕ → ℕ → Shape → Window
window_at left top shape = record { left = left; top = top; shape = shape }

-- the place's window of the plane, and the one of the sheet
abbrev pub windows_of : Place → WindowPair
windows_of c = record { from = window_at c.left c.top c.shape; to = window_at c.to_left c.to_top c.shape }

-- the part of the plane that a place shows: the pixels of at least h that the sheet has there are its own
abbrev pub part_of : Raster → ℤ → Place → Part
part_of s h c = part_at s h (windows_of c)

-- pixel p of the sheet lies in the place's window there
pub record LiesAt (s : Raster) (c : Place) (p : ℕ) : Type 0 where
  pub it : ℕ
  pub below : it < window_size (windows_of c).to
  pub place : in_whole s.shape.width (windows_of c).to it ≡ p

-- the place holds pixel p of the plane: there, the sheet has it with at least h
abbrev pub HoldsPixel : Raster → Raster → ℤ → Place → ℕ → Type 0
HoldsPixel r s h c p = IsHeld r (part_of s h c).from (part_of s h c).own p

-- no pixel of the sheet lies in two places
abbrev pub AreApartThere : Raster → List Place → Type 0
AreApartThere s places = (i j p : ℕ) (c e : Place) → slice_get places i ≡ Some c → slice_get places j ≡ Some e → LiesAt s c p → LiesAt s e p → i ≡ j

-- and none of the plane is held by two
abbrev pub AreHeldOnce : Raster → Raster → ℤ → List Place → Type 0
AreHeldOnce r s h places = (i j p : ℕ) (c e : Place) → slice_get places i ≡ Some c → slice_get places j ≡ Some e
    → HoldsPixel r s h c p → HoldsPixel r s h e p → i ≡ j

-- few pixels are reached at level h from p: fewer than this number, so that no source is among them
pub record HasFewAround (r : Raster) (connect : Connect) (h : ℤ) (min_area p : ℕ) : Type 0 where
  pub reached : List ℕ
  pub few : length reached < min_area
  pub all : (a : ℕ) → IsReached r connect h p a → Contains reached a

-- the sheet is laid out for plane r: each place is copied, none overlaps another one, and they hold each pixel of at least the threshold
-- but for groups that are too small for a source
pub record IsLaidOut (r : Raster) (connect : Connect) (choice : Choice) (sheet : Sheet) : Type 0 where
  pub one_each : IsPlane r
  pub whole : sheet.whole ≡ r.shape
  pub one_each_there : IsPlane sheet.plane
  pub copied : (i : ℕ) (c : Place) → slice_get sheet.places.items i ≡ Some c → IsCopied r sheet.plane connect choice.threshold (windows_of c)
  pub apart_there : AreApartThere sheet.plane sheet.places.items
  pub apart : AreHeldOnce r sheet.plane choice.threshold sheet.places.items
  pub held : (p : ℕ) → IsTrue (is_at_least r choice.threshold p)
      → ((i : ℕ) × ((c : Place) × (slice_get sheet.places.items i ≡ Some c) × HoldsPixel r sheet.plane choice.threshold c p))
      ⊎ HasFewAround r connect choice.threshold choice.min_area p

-- the tree is that of a sheet which is laid out for some plane
pub record IsTreeOfSheet (choice : Choice) (sheet : Sheet) (tree : ComponentTree) : Type 0 where
  pub plane : Raster
  pub connect : Connect
  pub laid_out : IsLaidOut plane connect choice sheet
  pub tree_is : tree ≡ tree_of sheet.plane connect
