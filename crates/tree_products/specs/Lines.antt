-- Model: how the list of a tree's nodes is written.
use Rattle.std.specs.Prelude.{ℕ, ◌==◌, List, [], ◌∷◌, map, length, get_or, slice_index, codes, decimal, pos, if◌then◌else◌}
use Rattle.std.specs.List.{concat, range_with_len}
use Rattle.std.specs.Fmt.{signed_decimal}
use Rattle.comp_tree.specs.declared.shape.Connect.{Connect}
use Rattle.comp_tree.specs.declared.tree.NodeRow.{NodeRow}
use Rattle.comp_tree.specs.Limits.{no_node}
use Rattle.comp_tree.specs.Raster.{Raster}
use Rattle.comp_tree.specs.Components.{tree_of}
use Rattle.node_sums.specs.Areas.{areas_in}

-- the number of a node's parent, or `-` at a root
abbrev pub parent_text : ℕ → List ℕ
parent_text parent = if parent == no_node then codes "-" else decimal parent

-- number, level, representative, parent and area
abbrev pub node_line : ℕ → NodeRow → ℕ → List ℕ
node_line number row area =
    concat (decimal number ∷ codes " " ∷ signed_decimal row.level ∷ codes " " ∷ decimal row.rep ∷ codes " " ∷ parent_text row.parent ∷ codes " "
    ∷ decimal area ∷ codes "\n" ∷ [])

-- the row of node n
abbrev pub row_numbered : List NodeRow → ℕ → NodeRow
row_numbered rows n = get_or rows n (record { level = pos 0; rep = 0; parent = 0 })

abbrev pub line_at : List NodeRow → List ℕ → ℕ → List ℕ
line_at rows areas n = node_line n (row_numbered rows n) (slice_index areas n)

-- a line for each node, in order
unfoldable pub lines_of : List NodeRow → List ℕ → List (List ℕ)
lines_of rows areas = map (line_at rows areas) (range_with_len 0 (length rows))

unfoldable pub tree_lines : List NodeRow → List ℕ → List ℕ
tree_lines rows areas = concat (lines_of rows areas)

-- the lines of the component tree of a plane
unfoldable pub node_list : Raster → Connect → List ℕ
node_list r connect = tree_lines (tree_of r connect).rows (areas_in r connect)
