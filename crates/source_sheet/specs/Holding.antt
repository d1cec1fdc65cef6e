-- Bookkeeping: marks on the pixels of a plane that places hold.
use Rattle.std.specs.Prelude.{◌≡◌, ℕ, ◌<◌, ◌⊎◌, Bool, false, IsTrue, ℤ, List, length, slice_get, Some}
use Rattle.comp_tree.specs.Raster.{Raster, is_at_least}
use Rattle.comp_tree.specs.Marks.{is_marked}
use Rattle.comp_tree.specs.Windows.{in_whole}
use Rattle.source_pick.specs.Sheets.{is_high_there}
use Rattle.source_sheet.specs.declared.sheet.Place.{Place}
use Rattle.source_sheet.specs.Laid.{windows_of, HoldsPixel}

-- pixel p, which had no mark, got one, if pixel `there` of the sheet is high
pub record HasHeld (s : Raster) (h : ℤ) (there p : ℕ) (old new : List Bool) : Type 0 where
  pub one_each : length new ≡ length old
  pub free : IsTrue (is_at_least s h there) → is_marked old p ≡ false
  pub set : IsTrue (is_at_least s h there) → IsTrue (is_marked new p)
  pub kept : (a : ℕ) → IsTrue (is_marked old a) → IsTrue (is_marked new a)
  pub listed : (a : ℕ) → IsTrue (is_marked new a) → IsTrue (is_marked old a) ⊎ ((p ≡ a) × IsTrue (is_at_least s h there))

-- the first pixels of a place's window were looked at: those that the place holds had no mark, and got one
pub record HasHeldFirst (r s : Raster) (h : ℤ) (c : Place) (count : ℕ) (old new : List Bool) : Type 0 where
  pub one_each : length new ≡ length old
  pub free : (q : ℕ) → q < count → IsTrue (is_high_there s h (windows_of c).to q) → is_marked old (in_whole r.shape.width (windows_of c).from q) ≡ false
  pub set : (q : ℕ) → q < count → IsTrue (is_high_there s h (windows_of c).to q) → IsTrue (is_marked new (in_whole r.shape.width (windows_of c).from q))
  pub kept : (a : ℕ) → IsTrue (is_marked old a) → IsTrue (is_marked new a)
  pub listed : (a : ℕ) → IsTrue (is_marked new a) → IsTrue (is_marked old a) ⊎ HoldsPixel r s h c a

-- the pixels that a place holds had no mark, and got one
pub record HasHeldAll (r s : Raster) (h : ℤ) (c : Place) (old new : List Bool) : Type 0 where
  pub one_each : length new ≡ length old
  pub free : (p : ℕ) → HoldsPixel r s h c p → is_marked old p ≡ false
  pub set : (p : ℕ) → HoldsPixel r s h c p → IsTrue (is_marked new p)
  pub kept : (a : ℕ) → IsTrue (is_marked old a) → IsTrue (is_marked new a)
  pub listed : (a : ℕ) → IsTrue (is_marked new a) → IsTrue (is_marked old a) ⊎ HoldsPixel r s h c a

-- the place that holds pixel p
pub record IsHeldBySome (r s : Raster) (h : ℤ) (places : List Place) (p : ℕ) : Type 0 where
  pub it : ℕ
  pub place : Place
  pub there : slice_get places it ≡ Some place
  pub holds : HoldsPixel r s h place p

-- the marked pixels are those that the first places hold, and no two of these hold the same
pub record AreHeldApart (r s : Raster) (h : ℤ) (places : List Place) (count : ℕ) (marks : List Bool) : Type 0 where
  pub one_each : length marks ≡ length r.values
  pub apart : (i j p : ℕ) (c e : Place) → i < count → j < count → slice_get places i ≡ Some c → slice_get places j ≡ Some e
      → HoldsPixel r s h c p → HoldsPixel r s h e p → i ≡ j
  pub held : (p : ℕ) → IsTrue (is_marked marks p) → IsHeldBySome r s h places p
  pub set : (i p : ℕ) (c : Place) → i < count → slice_get places i ≡ Some c → HoldsPixel r s h c p → IsTrue (is_marked marks p)
