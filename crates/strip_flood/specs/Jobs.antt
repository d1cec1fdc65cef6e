-- Model: what contracts see of a strip's job.
use Rattle.std.specs.Prelude.{◌≡◌, ℕ, ◌+◌, ◌-◌, ◌*◌, ◌<◌, Bool, true, List, length, slice_index, slice_index_or, Option, None, ℤ}
use Rattle.comp_tree.specs.declared.shape.Connect.{Connect}
use Rattle.comp_tree.specs.Counts.{count_defined, count_below, sum_below}
use Rattle.comp_tree.specs.Forest.{value_at, IsForest, StandsFor}
use Rattle.comp_tree.specs.Grid.{IsInner, are_adjacent}
use Rattle.comp_tree.specs.Raster.{Raster}

-- a job: the sides of its plane, the connectivity, its rows and their values, its links, and whether these were found
pub record JobView : Type 0 where
  pub width : ℕ
  pub height : ℕ
  pub connect : Connect
  pub first_row : ℕ
  pub end_row : ℕ
  pub values : List (Option ℤ)
  pub flooded : Bool
  pub links : List ℕ

-- the first pixel of the strip
abbrev pub first_of : JobView → ℕ
first_of j = j.first_row * j.width

-- the plane has the job's sides and, in the strip, its values
pub record SuitsStrip (j : JobView) (p : Raster) : Type 0 where
  pub width : p.shape.width ≡ j.width
  pub height : p.shape.height ≡ j.height
  pub count : length j.values ≡ (j.end_row - j.first_row) * j.width
  pub same : (i : ℕ) → i < length j.values → value_at p.values (first_of j + i) ≡ slice_index_or j.values i None

-- each is x
pub record IsAll (xs : List ℕ) (x : ℕ) : Type 0 where
  pub each : (i : ℕ) → i < length xs → slice_index xs i ≡ x

-- the job's links are a forest of the plane that stands for the strip's adjacencies
pub record IsStanding (j : JobView) (p : Raster) : Type 0 where
  pub forest : IsForest p.values (first_of j) j.links
  pub stands : StandsFor p.values (first_of j) j.links (IsInner p.values j.width j.connect (first_of j) (length j.links))

-- how many of the strip's pixels are defined
abbrev pub defined_count : JobView → Raster → ℕ
defined_count j p = count_defined p.values (first_of j) (length j.values)

-- how many ordered adjacencies some rows have whose pixels stand from first on
abbrev pub inner_count : List (Option ℤ) → ℕ → Connect → ℕ → ℕ → ℕ
inner_count values width connect first count = sum_below (λ i. count_below (λ j. are_adjacent values width connect (first + i) (first + j)) count) count

-- how many ordered adjacencies the strip has
abbrev pub adjacency_count : JobView → Raster → ℕ
adjacency_count j p = inner_count p.values j.width j.connect (first_of j) (length j.values)

-- where it is flooded, so it is for each plane that it fits
pub record IsStandingWhereFlooded (j : JobView) : Type 0 where
  pub standing : j.flooded ≡ true → (p : Raster) → SuitsStrip j p → IsStanding j p
