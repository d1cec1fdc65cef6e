-- Model: a tree as contracts see it: its shape, its rows in the order of their numbers, and for each pixel its smallest node.
use Rattle.std.specs.Prelude.{◌≡◌, ℕ, ◌*◌, ◌<◌, ◌≤◌, ◌⊎◌, List, map, length, slice_index}
use Rattle.comp_tree.specs.declared.shape.Shape.{Shape}
use Rattle.comp_tree.specs.declared.tree.NodeRow.{NodeRow}
pub use Rattle.comp_tree.specs.Limits.{no_node}

pub record ComponentTree : Type 0 where
  pub shape : Shape
  pub rows : List NodeRow
  pub node_of : List ℕ

-- the pixel and the parent that row n names
abbrev pub rep_in : List NodeRow → ℕ → ℕ
rep_in rows n = slice_index (map (λ row. row.rep) rows) n

abbrev pub parent_in : List NodeRow → ℕ → ℕ
parent_in rows n = slice_index (map (λ row. row.parent) rows) n

-- every number in a tree is the number of a pixel, of a row, or none
pub record IsWellFormed (t : ComponentTree) : Type 0 where
  pub few_rows : length t.rows ≤ t.shape.width * t.shape.height
  pub one_each : length t.node_of ≡ t.shape.width * t.shape.height
  pub nodes : (p : ℕ) → p < length t.node_of
      → (slice_index t.node_of p ≡ no_node) ⊎ (slice_index t.node_of p < length t.rows)
  pub reps : (n : ℕ) → n < length t.rows → rep_in t.rows n < t.shape.width * t.shape.height
  pub parents : (n : ℕ) → n < length t.rows → (parent_in t.rows n ≡ no_node) ⊎ (parent_in t.rows n < n)
