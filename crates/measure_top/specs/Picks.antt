-- Bookkeeping: how far a plane has been cut, and what is kept of the sources between the two trees.
use Rattle.std.specs.Prelude.{◌≡◌, ℕ, ◌*◌, ◌<◌, ◌≤◌, cond, ℤ, ◌≤ℤ◌, List, length, map, Some, None, slice_get, slice_index}
use Rattle.std.specs.List.{All, flat_map}
use Rattle.comp_tree.specs.declared.shape.Shape.{Shape}
use Rattle.comp_tree.specs.declared.shape.Connect.{Connect}
use Rattle.comp_tree.specs.Raster.{Raster, value_at, is_at_least}
use Rattle.comp_tree.specs.ComponentTree.{ComponentTree}
use Rattle.comp_tree.specs.Components.{node_of}
use Rattle.comp_tree.specs.Laws.{top_of}
use Rattle.source_pick.specs.declared.choice.Choice.{Choice}
use Rattle.source_pick.specs.Sources.{sources}
use Rattle.source_pick.specs.Segmentation.{segmentation}
use Rattle.source_pick.specs.Catalogue.{FitsColumns, catalogue_of}
use Rattle.dual_measure.specs.Measures.{measure_of, back_of}
use Rattle.dual_measure.specs.Columns.{measured_cells_of}
use Rattle.source_sheet.specs.declared.tops.PickedSource.{PickedSource}

-- ---- planes

-- the first count pixels are undefined where they are below h, and all others are as they were
pub record IsCutUpTo (r : Raster) (h : ℤ) (count : ℕ) (plane : Raster) : Type 0 where
  pub same_shape : plane.shape ≡ r.shape
  pub one_each : length plane.values ≡ length r.values
  pub done : (p : ℕ) → p < count → value_at plane.values p ≡ cond (is_at_least r h p) (value_at r.values p) None
  pub rest : (p : ℕ) → count ≤ p → value_at plane.values p ≡ value_at r.values p

-- ---- the nodes that were picked

-- these are the rows of some nodes, and the pixels that represent them
pub record AreNodesOf (r : Raster) (connect : Connect) (picked : List ℕ) (nodes : List PickedSource) : Type 0 where
  pub rows : map (λ n. n.row) nodes ≡ catalogue_of r connect picked
  pub representatives : map (λ n. n.rep) nodes ≡ map (top_of r connect) picked

-- the map over the sources, their rows, and the pixels that represent them
pub record AreSourcesOf (r : Raster) (connect : Connect) (choice : Choice) (numbers : List ℕ) (nodes : List PickedSource) : Type 0 where
  pub numbers_are : numbers ≡ segmentation r connect choice
  pub nodes_are : AreNodesOf r connect (sources r connect choice) nodes

-- each row fits the columns
abbrev pub HaveFittingRows : List PickedSource → Type 0
HaveFittingRows nodes = (k : ℕ) (node : PickedSource) → slice_get nodes k ≡ Some node → FitsColumns node.row

-- so a map with a number for each pixel, and the cells of the nodes, can be written
pub record CanBeListed (shape : Shape) (numbers : List ℕ) (nodes : List PickedSource) : Type 0 where
  pub one_each : length numbers ≡ shape.width * shape.height
  pub small : All (λ n. n ≤ 2147483647) numbers
  pub few : length nodes ≤ 2147483647
  pub fits : HaveFittingRows nodes

-- each has at least this base
abbrev pub HaveBasesFrom : ℤ → List PickedSource → Type 0
HaveBasesFrom h nodes = (k : ℕ) (node : PickedSource) → slice_get nodes k ≡ Some node → h ≤ℤ node.row.base

-- the pixels that represent them belong to nodes of a tree
abbrev pub StandIn : ComponentTree → List PickedSource → Type 0
StandIn tree nodes = (k : ℕ) (node : PickedSource) → slice_get nodes k ≡ Some node
    → (node.rep < length tree.node_of) × (slice_index tree.node_of node.rep < length tree.rows)

-- ---- their cells

-- the row of a node, and its measure and its back in a plane where a pixel represents it
unfoldable pub cells_at : (plane values : Raster) → Connect → PickedSource → List ℤ
cells_at plane values connect node =
    measured_cells_of node.row (measure_of values plane connect (node_of plane connect node.rep))
    (back_of values plane connect (node_of plane connect node.rep))

-- of all of them, one behind the other
unfoldable pub all_cells : (plane values : Raster) → Connect → List PickedSource → List ℤ
all_cells plane values connect nodes = flat_map (cells_at plane values connect) nodes
