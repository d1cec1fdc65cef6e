-- Bookkeeping: how areas are counted, by a pass over the pixels and one over the nodes.
use Rattle.std.specs.Prelude.{◌≡◌, ℕ, ◌<◌, ◌==◌, List, length, filter, slice_index}
use Rattle.std.specs.List.{range_with_len}
use Rattle.comp_tree.specs.declared.shape.Connect.{Connect}
use Rattle.comp_tree.specs.Raster.{Raster, pixels}
use Rattle.comp_tree.specs.ComponentTree.{ComponentTree}
use Rattle.comp_tree.specs.Components.{tree_of}
use Rattle.node_sums.specs.Counted.{is_counted}

-- how many of the first n entries of a list are m
abbrev pub times_among : List ℕ → ℕ → ℕ → ℕ
times_among numbers m n = length (filter (λ q. slice_index numbers q == m) (range_with_len 0 n))

-- each entry says how often its place occurs among the first n numbers
pub record AreCounts (numbers : List ℕ) (n : ℕ) (areas : List ℕ) : Type 0 where
  pub counts : (m : ℕ) → m < length areas → slice_index areas m ≡ times_among numbers m n

-- when the nodes numbered from k on have been added to their parents, the entry of node m counts the pixels of m
-- that belong to no node with a number above m and below k
pub record AreSoFar (r : Raster) (tree : ComponentTree) (k : ℕ) (areas : List ℕ) : Type 0 where
  pub one_each : length areas ≡ length tree.rows
  pub counted : (connect : Connect) (m : ℕ) → tree ≡ tree_of r connect → m < length areas
      → slice_index areas m ≡ length (filter (is_counted r connect k m) (pixels r))
