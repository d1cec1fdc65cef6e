-- Bookkeeping: what is known of the first tiles, and the marks on the pixels of their cores.
use Rattle.std.specs.Prelude.{◌≡◌, ℕ, ◌*◌, ◌<◌, ◌⊎◌, true, IsTrue, List, [], Some, slice_get, slice_index}
use Rattle.comp_tree.specs.declared.shape.Shape.{Shape}
use Rattle.comp_tree.specs.Windows.{in_whole}
use Rattle.tile_join.specs.declared.tiles.Frame.{Frame}
use Rattle.tile_join.specs.declared.tiles.TileCatalogue.{TileCatalogue}
use Rattle.tile_join.specs.Tiles.{window_of, is_in_frame, fits_image, IsSoAt, IsOfEarlierCore}

-- the first tiles, so many, can be of an image of this shape
abbrev pub AreFitting : Shape → List TileCatalogue → ℕ → Type 0
AreFitting whole tiles count = (i : ℕ) (t : TileCatalogue) → i < count → slice_get tiles i ≡ Some t → fits_image whole t ≡ true

-- they have nothing open
abbrev pub AreKnown : List TileCatalogue → ℕ → Type 0
AreKnown tiles count = (i : ℕ) (t : TileCatalogue) → i < count → slice_get tiles i ≡ Some t → t.open.items ≡ []

-- from marks `old` to marks `new`: the first pixels of a frame, so many, had no mark, and each got one
pub record AreFirstMarked (width : ℕ) (f : Frame) (count : ℕ) (old new : List ℕ) : Type 0 where
  pub free : (q : ℕ) → q < count → slice_index old (in_whole width (window_of f) q) ≡ 0
  pub set : (q : ℕ) → q < count → 0 < slice_index new (in_whole width (window_of f) q)
  pub kept : (p : ℕ) → 0 < slice_index old p → 0 < slice_index new p
  pub listed : (p : ℕ) → 0 < slice_index new p → (0 < slice_index old p) ⊎ ((q : ℕ) × (q < count) × (in_whole width (window_of f) q ≡ p))

-- the pixels of a frame had no mark, and each got one
pub record IsFrameMarked (width : ℕ) (f : Frame) (old new : List ℕ) : Type 0 where
  pub free : (p : ℕ) → IsTrue (is_in_frame width f p) → slice_index old p ≡ 0
  pub set : (p : ℕ) → IsTrue (is_in_frame width f p) → 0 < slice_index new p
  pub kept : (p : ℕ) → 0 < slice_index old p → 0 < slice_index new p
  pub listed : (p : ℕ) → 0 < slice_index new p → (0 < slice_index old p) ⊎ IsTrue (is_in_frame width f p)

-- a pixel of the frame has a mark
abbrev pub HasMark : ℕ → Frame → List ℕ → Type 0
HasMark width f marks = (p : ℕ) × IsTrue (is_in_frame width f p) × (0 < slice_index marks p)

-- the marked pixels are those of the first cores, of which no two have the same
pub record AreCoresMarked (width : ℕ) (tiles : List TileCatalogue) (count : ℕ) (marks : List ℕ) : Type 0 where
  pub apart : (p i j : ℕ) (t u : TileCatalogue) → i < count → j < count → slice_get tiles i ≡ Some t → slice_get tiles j ≡ Some u
      → IsTrue (is_in_frame width t.core p) → IsTrue (is_in_frame width u.core p) → i ≡ j
  pub set : (p i : ℕ) (t : TileCatalogue) → i < count → slice_get tiles i ≡ Some t → IsTrue (is_in_frame width t.core p) → 0 < slice_index marks p
  pub held : (p : ℕ) → 0 < slice_index marks p → IsOfEarlierCore width tiles count p

-- no two cores have the same pixel
abbrev pub AreCoresApart : Shape → List TileCatalogue → Type 0
AreCoresApart whole tiles = (p i j : ℕ) (t u : TileCatalogue) → slice_get tiles i ≡ Some t → slice_get tiles j ≡ Some u
    → IsTrue (is_in_frame whole.width t.core p) → IsTrue (is_in_frame whole.width u.core p) → i ≡ j

-- each pixel of the image is one of a core
abbrev pub AreCoresCovering : Shape → List TileCatalogue → Type 0
AreCoresCovering whole tiles = (p : ℕ) → p < whole.width * whole.height → (i : ℕ) × IsSoAt tiles i (λ t. IsTrue (is_in_frame whole.width t.core p))
