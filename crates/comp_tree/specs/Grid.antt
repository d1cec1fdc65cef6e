-- Model: which pixels of a grid are neighbours.
use Rattle.std.specs.Prelude.{ℕ, ◌+◌, ◌-◌, ◌/◌, ◌%◌, ◌<◌, ◌≤◌, max, Bool, ◌&&◌, ◌==◌, IsTrue, is_some, List, Option, ℤ}
use Rattle.comp_tree.specs.declared.shape.Connect.{Connect}
use Rattle.comp_tree.specs.declared.shape.Connect.TheVariants.{Four, Eight}
use Rattle.comp_tree.specs.Raster.{value_at}

-- how far two numbers lie apart
unfoldable pub distance : ℕ → ℕ → ℕ
distance a b = (a - b) + (b - a)

-- pixels that lie so many columns and rows apart are neighbours: they differ by one in one coordinate, and with `Eight`
-- also in both
unfoldable pub are_linked : Connect → ℕ → ℕ → Bool
are_linked Four columns rows = columns + rows == 1
are_linked Eight columns rows = max columns rows == 1

-- pixels p and q of a grid of this width are neighbours
unfoldable pub are_neighbours : Connect → ℕ → ℕ → ℕ → Bool
are_neighbours connect width p q = are_linked connect (distance (p % width) (q % width)) (distance (p / width) (q / width))

-- two pixels of a plane are adjacent: both are defined, and the grid makes them neighbours
abbrev pub are_adjacent : List (Option ℤ) → ℕ → Connect → ℕ → ℕ → Bool
are_adjacent values width connect p q =
    is_some (value_at values p) && is_some (value_at values q) && are_neighbours connect width p q

-- an adjacency of the plane
abbrev pub IsAdjacency : List (Option ℤ) → ℕ → Connect → ℕ → ℕ → Type 0
IsAdjacency values width connect p q = IsTrue (are_adjacent values width connect p q)

-- p is one of the count pixels from first on
pub record LiesInStretch (first count p : ℕ) : Type 0 where
  pub low : first ≤ p
  pub high : p < first + count

-- an adjacency of two of the count pixels from first on
pub record IsInner (values : List (Option ℤ)) (width : ℕ) (connect : Connect) (first count p q : ℕ) : Type 0 where
  pub adjacent : IsTrue (are_adjacent values width connect p q)
  pub one : LiesInStretch first count p
  pub other : LiesInStretch first count q
