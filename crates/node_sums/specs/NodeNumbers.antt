-- Bookkeeping: how the nodes of a list are numbered, and what is met on the way upwards.
use Rattle.std.specs.Prelude.{◌≡◌, ℕ, ◌<◌, ◌+◌, List, length, ◌⊎◌, slice_get, slice_index, Some}
use Rattle.comp_tree.specs.declared.tree.NodeRow.{NodeRow}
use Rattle.comp_tree.specs.Laws.{IsAncestor}

-- m is n, or is met on the way from n upwards
abbrev pub IsOnWay : List NodeRow → ℕ → ℕ → Type 0
IsOnWay rows m n = (n ≡ m) ⊎ IsAncestor rows m n

-- the first count nodes of the list have their places from 1 at their numbers, and all other nodes have 0
pub record AreMarked (size : ℕ) (marked : List ℕ) (count : ℕ) (numbers : List ℕ) : Type 0 where
  pub one_each : length numbers ≡ size
  pub sound : (n : ℕ) → n < size
      → (slice_index numbers n ≡ 0) ⊎ ((i : ℕ) × (i < count) × (slice_get marked i ≡ Some n) × (slice_index numbers n ≡ i + 1))
  pub complete : (i n : ℕ) → i < count → slice_get marked i ≡ Some n → slice_index numbers n ≡ 0 → ⊥
