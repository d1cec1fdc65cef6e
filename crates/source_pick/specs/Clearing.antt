-- Bookkeeping: which pixels have been marked so far, while those near the pixels of at least the threshold are looked for.
use Rattle.std.specs.Prelude.{◌≡◌, ℕ, ◌<◌, ◌+◌, ◌-◌, ◌≤◌, Bool, true, false, IsTrue, List, length, ◌⊎◌, slice_index_or, ℤ}
use Rattle.comp_tree.specs.declared.shape.Connect.{Connect}
use Rattle.comp_tree.specs.declared.shape.Connect.TheVariants.{Four, Eight}
use Rattle.comp_tree.specs.Raster.{Raster, is_defined, is_at_least}
use Rattle.comp_tree.specs.Grid.{are_neighbours}
use Rattle.source_pick.specs.Locality.{is_near_high}

-- of the first count pixels none is defined and below h
abbrev pub HasNoneBelow : Raster → ℤ → ℕ → Type 0
HasNoneBelow r h count = (p : ℕ) → p < count → IsTrue (is_defined r p) → IsTrue (is_at_least r h p)

-- pixel q is p, or a neighbour of p
abbrev pub IsAround : Connect → ℕ → ℕ → ℕ → Type 0
IsAround connect width p q = (q ≡ p) ⊎ IsTrue (are_neighbours connect width p q)

-- of a row that lies so many rows away, at most one, the pixels up to so many columns to each side are around a pixel
abbrev pub columns_beside : Connect → ℕ → ℕ
columns_beside Four rows = 1 - rows
columns_beside Eight rows = 1

-- In what follows a list of marks has one for each pixel from `start` on.

-- of the pixels from first up to end those before `count` have been marked, and no others
pub record AreSetBetween (start first end count : ℕ) (old new : List Bool) : Type 0 where
  pub one_each : length new ≡ length old
  pub sound : (k : ℕ) → slice_index_or new k false ≡ true → (slice_index_or old k false ≡ true) ⊎ ((first ≤ start + k) × (start + k < end))
  pub kept : (k : ℕ) → slice_index_or old k false ≡ true → slice_index_or new k false ≡ true
  pub complete : (k : ℕ) → k < length old → first ≤ start + k → start + k < count → slice_index_or new k false ≡ true

-- of the pixels around p those before `count` have been marked, and no others
pub record AreSetAround (connect : Connect) (width p start count : ℕ) (old new : List Bool) : Type 0 where
  pub one_each : length new ≡ length old
  pub sound : (k : ℕ) → slice_index_or new k false ≡ true → (slice_index_or old k false ≡ true) ⊎ IsAround connect width p (start + k)
  pub kept : (k : ℕ) → slice_index_or old k false ≡ true → slice_index_or new k false ≡ true
  pub complete : (k : ℕ) → k < length old → start + k < count → IsAround connect width p (start + k) → slice_index_or new k false ≡ true

-- what is around the pixels of at least h from first up to count is marked, and nothing that is not near such a pixel
pub record AreMarkedNear (r : Raster) (connect : Connect) (h : ℤ) (start first count : ℕ) (marks : List Bool) : Type 0 where
  pub sound : (k : ℕ) → slice_index_or marks k false ≡ true → is_near_high r connect h (start + k) ≡ true
  pub complete : (p k : ℕ) → first ≤ p → p < count → IsTrue (is_at_least r h p) → k < length marks → IsAround connect r.shape.width p (start + k)
      → slice_index_or marks k false ≡ true
