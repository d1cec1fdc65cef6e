-- Model: some nodes of a tree that share no pixel, and which of them holds a pixel or a node.
use Rattle.std.specs.Prelude.{◌≡◌, ℕ, ◌<◌, List, length, Some, slice_get, slice_index, unwrap_or}
use Rattle.std.specs.List.{position_from}
use Rattle.comp_tree.specs.declared.shape.Connect.{Connect}
use Rattle.comp_tree.specs.Raster.{Raster, IsPlane}
use Rattle.comp_tree.specs.ComponentTree.{ComponentTree}
use Rattle.comp_tree.specs.Components.{is_in_node, tree_of}
use Rattle.comp_tree.specs.Laws.{AreDisjoint, top_of}

-- the tree is some plane's, for some connectivity, and the list has nodes of it that share no pixel
pub record AreDisjointNodes (tree : ComponentTree) (marked : List ℕ) : Type 0 where
  pub plane : Raster
  pub connect : Connect
  pub one_each : IsPlane plane
  pub tree_is : tree ≡ tree_of plane connect
  pub nodes : (i s : ℕ) → slice_get marked i ≡ Some s → s < length tree.rows
  pub disjoint : (i j s t : ℕ) → i < j → slice_get marked i ≡ Some s → slice_get marked j ≡ Some t → AreDisjoint plane connect s t

-- the place from 1 of the node in the list whose component holds pixel p, and 0 where none does
unfoldable pub listed_number_at : Raster → Connect → List ℕ → ℕ → ℕ
listed_number_at r connect marked p = unwrap_or (position_from (λ n. is_in_node r connect n p) 1 marked) 0

-- the first count nodes have the number of the node of the list that is on their way upwards
pub record AreNumbered (tree : ComponentTree) (marked : List ℕ) (count : ℕ) (numbers : List ℕ) : Type 0 where
  pub one_each : length numbers ≡ length tree.rows
  pub each : (r : Raster) (connect : Connect) → IsPlane r → tree ≡ tree_of r connect → (n : ℕ) → n < count
      → slice_index numbers n ≡ listed_number_at r connect marked (top_of r connect n)
