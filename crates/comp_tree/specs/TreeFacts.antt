-- Model: the component tree of a plane by what it is, over paths alone: `tree_of` is the one tree of which this holds.
use Rattle.std.specs.Prelude.{◌≡◌, ℕ, ◌<◌, ◌≤◌, IsTrue, IsFalse, ◌<ℤ◌, ◌≤ℤ◌, List, length, slice_index, slice_get, Some}
use Rattle.comp_tree.specs.declared.shape.Connect.{Connect}
use Rattle.comp_tree.specs.declared.tree.NodeRow.{NodeRow}
use Rattle.comp_tree.specs.ComponentTree.{ComponentTree}
use Rattle.comp_tree.specs.Raster.{Raster, is_defined, level, is_earlier}
use Rattle.comp_tree.specs.Components.{IsReached, no_node, tree_of}

-- row is a node: its pixel is defined, has its level, and is the least pixel of this level in its component
pub record IsNodeRow (r : Raster) (connect : Connect) (row : NodeRow) : Type 0 where
  pub defined : IsTrue (is_defined r row.rep)
  pub at_level : row.level ≡ level r row.rep
  pub least : (q : ℕ) → IsReached r connect row.level row.rep q → level r q ≡ row.level → row.rep ≤ q

-- the node of a defined pixel is the one of its level whose pixel it reaches there
pub record IsNodeOf (r : Raster) (connect : Connect) (row : NodeRow) (p : ℕ) : Type 0 where
  pub same_level : row.level ≡ level r p
  pub reached : IsReached r connect (level r p) p row.rep

-- q has a smaller value than p, and p is reached from q at the level of q
pub record IsBelow (r : Raster) (connect : Connect) (q p : ℕ) : Type 0 where
  pub lower : level r q <ℤ level r p
  pub reached : IsReached r connect (level r q) q p

-- the parent of a node: none where no pixel is below it, else the node of a pixel below it whose value is greatest
pub data IsParentOf (r : Raster) (connect : Connect) (node_of : List ℕ) (p : ℕ) : ℕ → Type 0 where
  root : ((q : ℕ) → IsBelow r connect q p → ⊥) → IsParentOf r connect node_of p no_node
  child : (q : ℕ) → IsBelow r connect q p → ((s : ℕ) → IsBelow r connect s p → level r s ≤ℤ level r q)
      → IsParentOf r connect node_of p (slice_index node_of q)

-- t is the component tree of r
pub record IsTreeOf (r : Raster) (connect : Connect) (t : ComponentTree) : Type 0 where
  pub same_shape : t.shape ≡ r.shape
  pub one_each : length t.node_of ≡ length r.values
  -- the rows are nodes, in the order (level, pixel)
  pub node_rows : (n : ℕ) (row : NodeRow) → slice_get t.rows n ≡ Some row → IsNodeRow r connect row
  pub in_order : (m n : ℕ) (first second : NodeRow)
      → slice_get t.rows m ≡ Some first → slice_get t.rows n ≡ Some second → m < n
      → IsTrue (is_earlier r first.rep second.rep)
  pub parents : (n : ℕ) (row : NodeRow) → slice_get t.rows n ≡ Some row
      → IsParentOf r connect t.node_of row.rep row.parent
  -- each pixel has its node
  pub undefined : (p n : ℕ) → slice_get t.node_of p ≡ Some n → IsFalse (is_defined r p) → n ≡ no_node
  pub defined : (p n : ℕ) → slice_get t.node_of p ≡ Some n → IsTrue (is_defined r p)
      → (row : NodeRow) × (slice_get t.rows n ≡ Some row) × IsNodeOf r connect row p

-- there is one tree of each plane, and only one
abbrev pub EachPlaneHasOneTree : Type 0
EachPlaneHasOneTree = (r : Raster) (connect : Connect)
    → IsTreeOf r connect (tree_of r connect) × ((t : ComponentTree) → IsTreeOf r connect t → t ≡ tree_of r connect)
