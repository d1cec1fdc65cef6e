-- Model: the nodes of a plane's tree by their numbers: their levels, their components as lists of pixels, and which of these lie in which.
use Rattle.std.specs.Prelude.{ℕ, Bool, ◌==◌, ℤ, pos, List, length, map, filter, slice_index_or}
use Rattle.std.specs.List.{range_with_len, list_all}
use Rattle.comp_tree.specs.declared.shape.Connect.{Connect}
use Rattle.comp_tree.specs.declared.tree.NodeRow.{NodeRow}
use Rattle.comp_tree.specs.Raster.{Raster, pixels}
use Rattle.comp_tree.specs.ComponentTree.{ComponentTree, parent_in, no_node}
use Rattle.comp_tree.specs.Components.{nodes, is_in_node, tree_of}

-- the numbers of all nodes
abbrev pub node_numbers : Raster → Connect → List ℕ
node_numbers r connect = range_with_len 0 (length (nodes r connect))

-- node n has no parent
abbrev pub is_root : ComponentTree → ℕ → Bool
is_root tree n = parent_in tree.rows n == no_node

-- the level that row n names
abbrev pub level_in : List NodeRow → ℕ → ℤ
level_in rows n = slice_index_or (map (λ row. row.level) rows) n (pos 0)

-- the level of node n
abbrev pub level_of_node : Raster → Connect → ℕ → ℤ
level_of_node r connect n = level_in (tree_of r connect).rows n

-- the component of node n
unfoldable pub pixels_of : Raster → Connect → ℕ → List ℕ
pixels_of r connect n = filter (is_in_node r connect n) (pixels r)

-- the component of node n lies within that of node m
unfoldable pub lies_within : Raster → Connect → ℕ → ℕ → Bool
lies_within r connect n m = list_all (is_in_node r connect m) (pixels_of r connect n)
