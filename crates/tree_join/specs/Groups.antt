-- Model: neighbouring groups of rows.
use Rattle.std.specs.Prelude.{ℕ, ◌+◌, ◌≤◌, ◌++◌, List, length, Option, ℤ}
use Rattle.comp_tree.specs.Limits.{most_pixels}
use Rattle.comp_tree.specs.Grid.{LiesInStretch}
use Rattle.comp_tree.specs.Joined.{Or, Has}
use Rattle.comp_tree.specs.Forest.{IsForest, StandsFor}

-- each pair of E is of the count pixels from first on
pub record HasPairsWithin (first count : ℕ) (E : ℕ → ℕ → Type 0) : Type 0 where
  pub one : (p q : ℕ) → E p q → LiesInStretch first count p
  pub other : (p q : ℕ) → E p q → LiesInStretch first count q

-- The links of one group stand for E and those of the group behind it for F, and none leads out of its group. Then the list
-- that has the second group's links behind the first's stands for the pairs of both.
abbrev pub GroupsStand : Type 0
GroupsStand = (values : List (Option ℤ)) (first : ℕ) (links more : List ℕ) (E F : List (ℕ × ℕ))
    → first + (length links + length more) ≤ most_pixels
    → IsForest values first links → IsForest values (first + length links) more
    → HasPairsWithin first (length links) (Has E) → HasPairsWithin (first + length links) (length more) (Has F)
    → StandsFor values first links (Has E) → StandsFor values (first + length links) more (Has F)
    → IsForest values first (links ++ more) × StandsFor values first (links ++ more) (Or (Has E) (Has F))
