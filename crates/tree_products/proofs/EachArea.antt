-- There is one area for each node.
use Rattle.std.proofs.Common.{◌≡◌, ℕ, List, length, sym, ◌∙◌, ap}
use Rattle.std.proofs.lemmas.List.{length-map}
use Rattle.std.proofs.lemmas.List.FromFn.{length-range_with_len}
use Rattle.comp_tree.specs.declared.shape.Connect.{Connect}
use Rattle.comp_tree.specs.Raster.{Raster}
use Rattle.comp_tree.specs.ComponentTree.{ComponentTree}
use Rattle.comp_tree.specs.Components.{tree_of}
use Rattle.comp_tree.proofs.Exported.{length-rows}
use Rattle.node_sums.specs.Areas.{area_of, areas_in}
use Rattle.tree_products.specs.Lines.{tree_lines, node_list}

pub one_area_each : (r : Raster) (connect : Connect) (tree : ComponentTree) (items : List ℕ) → tree ≡ tree_of r connect → items ≡ areas_in r connect
    → length items ≡ length tree.rows
unfolding areas_in
one_area_each r connect tree items is are =
    ap length are ∙ length-map _ (area_of r connect) ∙ length-range_with_len 0 _ ∙ sym (length-rows r connect)
    ∙ sym (ap (λ (t : ComponentTree). length t.rows) is)

-- their lines are those of the plane's tree
pub list_is : (r : Raster) (connect : Connect) (t : ComponentTree) (counts : List ℕ) → t ≡ tree_of r connect → counts ≡ areas_in r connect
    → tree_lines t.rows counts ≡ node_list r connect
unfolding node_list
list_is r connect t counts p q = ap (λ (u : ComponentTree). tree_lines u.rows counts) p ∙ ap (tree_lines (tree_of r connect).rows) q
