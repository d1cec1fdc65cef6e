-- Model: the base and the flux of a node.
use Rattle.std.specs.Prelude.{ℕ, cond, ℤ, ◌-ℤ◌}
use Rattle.comp_tree.specs.declared.shape.Connect.{Connect}
use Rattle.comp_tree.specs.Raster.{Raster, level}
use Rattle.comp_tree.specs.ComponentTree.{ComponentTree, parent_in}
use Rattle.comp_tree.specs.Components.{tree_of}
use Rattle.comp_tree.specs.Nesting.{is_root, level_in, pixels_of}
use Rattle.node_sums.specs.Sums.{total}

-- the base of node n: the level of its parent, and at a root its own level
unfoldable pub base_of : ComponentTree → ℕ → ℤ
base_of tree n = cond (is_root tree n) (level_in tree.rows n) (level_in tree.rows (parent_in tree.rows n))

-- the flux of node n of the plane's tree: the sum of value less base over its component
unfoldable pub flux_of : Raster → Connect → ℕ → ℤ
flux_of r connect n = total (λ p. level r p -ℤ base_of (tree_of r connect) n) (pixels_of r connect n)
