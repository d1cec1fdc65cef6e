-- Bookkeeping: rows and bands of pixels that are lessened by a background, some pixels at a time.
use Rattle.std.specs.Prelude.{◌≡◌, ℕ, ◌+◌, ◌*◌, ◌%◌, ◌^◌, ◌<◌, ◌≤◌, ℤ, pos, neg_ℤ, ◌-ℤ◌, ◌≤ℤ◌, Bool, cond, List, length, All, slice_index_or, Option, Some}
use Rattle.std.specs.Option.{option_map}
use Rattle.comp_tree.specs.declared.shape.Shape.{Shape}
use Rattle.comp_tree.specs.Limits.{IsInHalfRange}
use Rattle.comp_tree.specs.Raster.{Raster, value_at}
use Rattle.mesh_background.specs.Mesh.{cell_count, mesh_cell_of, values_of_mesh}
use Rattle.mesh_background.specs.Residuals.{filtered_values, pixel_level}

-- a number is `whole` times one within a bound, or between two such
pub record IsWithinTimes (bound whole : ℕ) (value : ℤ) : Type 0 where
  pub low : neg_ℤ (pos (whole * bound)) ≤ℤ value
  pub high : value ≤ℤ pos (whole * bound)

-- a number is `whole` times one in half of the range, or between two such
abbrev pub IsHalfRangeTimes : ℕ → ℤ → Type 0
IsHalfRangeTimes whole value = IsWithinTimes (2 ^ 36) whole value

-- each value from place first on is within half of the range
pub record IsInHalfRangeFrom (first : ℕ) (values : List (Option ℤ)) : Type 0 where
  pub each : (k : ℕ) (v : ℤ) → first ≤ k → value_at values k ≡ Some v → IsInHalfRange v

-- the number that a list has for the cell of pixel p
abbrev pub number_of_cell : ℕ → ℕ → List ℤ → ℕ → ℤ
number_of_cell mesh width numbers p = slice_index_or numbers (mesh_cell_of mesh width p) (pos 0)

-- the numbers under a plane that its background comes from: flat, those of the cells, or else these filtered
abbrev pub numbers_under : Option ℤ → Raster → ℕ → Bool → List ℤ
numbers_under empty r mesh flat = cond flat (values_of_mesh empty r mesh) (filtered_values empty r mesh)

-- the level at pixel p: flat, the number of its cell, or else the level between the cells' numbers
abbrev pub level_of : Bool → ℕ → Shape → List ℤ → ℕ → ℤ
level_of flat mesh shape numbers p = cond flat (number_of_cell mesh shape.width numbers p) (pixel_level mesh shape numbers p)

-- there is a number for each cell of an image of this shape, in half of the range
pub record AreNumbers (mesh : ℕ) (shape : Shape) (numbers : List ℤ) : Type 0 where
  pub one_each : length numbers ≡ cell_count mesh shape
  pub in_range : All IsInHalfRange numbers

-- whole rows of an image of this shape, from its pixel start on, whose values are in half of the range
pub record IsBand (shape : Shape) (start : ℕ) (values : List (Option ℤ)) : Type 0 where
  pub whole_start : start % shape.width ≡ 0
  pub whole_rows : length values % shape.width ≡ 0
  pub inside : start + length values ≤ shape.width * shape.height
  pub in_range : IsInHalfRangeFrom 0 values

-- values like the old ones, but that those from place first up to end are less by what `by` says of the place
pub record IsLessened (old : List (Option ℤ)) (by : ℕ → ℤ) (first end : ℕ) (new : List (Option ℤ)) : Type 0 where
  pub one_each : length new ≡ length old
  pub before : (k : ℕ) → k < first → value_at new k ≡ value_at old k
  pub inside : (k : ℕ) → first ≤ k → k < end → value_at new k ≡ option_map (λ v. v -ℤ by k) (value_at old k)
  pub behind : (k : ℕ) → end ≤ k → value_at new k ≡ value_at old k
