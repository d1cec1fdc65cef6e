-- The sources of a plane, found in the plane of its pixels near those of at least the threshold.
use Rattle.std.proofs.Common.{◌≡◌, ◌∙◌, ap, sym, subst, ℕ, ◌≤◌, List, length}
use Rattle.std.specs.Prelude.{slice_index}
use Rattle.std.proofs.lemmas.List.{get_or_default}
use Rattle.comp_tree.specs.declared.shape.Connect.{Connect}
use Rattle.comp_tree.specs.Raster.{Raster, IsPlane}
use Rattle.comp_tree.specs.ComponentTree.{ComponentTree}
use Rattle.node_sums.specs.Sums.{IsTreeOfPlane}
use Rattle.source_pick.specs.declared.choice.Choice.{Choice}
use Rattle.source_pick.specs.Sources.{sources}
use Rattle.source_pick.specs.Segmentation.{segmentation_of, segmentation}
use Rattle.source_pick.specs.Catalogue.{catalogue}
use Rattle.source_pick.specs.Locality.{HaveSameSources}
use Rattle.source_pick.proofs.Exported.{numbers-length}
use Rattle.source_sheet.specs.declared.tops.PickedSource.{PickedSource}
use Rattle.measure_top.specs.Picks.{AreNodesOf, AreSourcesOf, HaveFittingRows, CanBeListed}

pub are_sources_of : (plane : Raster) (connect : Connect) (choice : Choice) (picked marked listed : List ℕ) (numbers : List ℕ) (found : List PickedSource)
    → picked ≡ sources plane connect choice → marked ≡ picked → numbers ≡ segmentation_of plane connect marked → listed ≡ picked
    → AreNodesOf plane connect listed found
    → AreSourcesOf plane connect choice numbers found
unfolding segmentation
are_sources_of plane connect choice picked marked listed numbers found are same_marked mapped same_listed are_nodes = record {
  numbers_are = mapped ∙ ap (segmentation_of plane connect) (same_marked ∙ are);
  nodes_are = subst (λ (l : List ℕ). AreNodesOf plane connect l found) (same_listed ∙ are) are_nodes;
}

pub can_be_listed : (plane : Raster) (tree : ComponentTree) (numbers : List ℕ) (found : List PickedSource) → IsTreeOfPlane plane tree → IsPlane plane
    → length numbers ≡ length tree.node_of → ((p : ℕ) → slice_index numbers p ≤ 2147483647) → length found ≤ 2147483647 → HaveFittingRows found
    → CanBeListed plane.shape numbers found
can_be_listed plane tree numbers found of_plane whole one_each small few fits = record {
  one_each = one_each ∙ numbers-length plane of_plane.0 tree of_plane.1 ∙ whole;
  small = λ k d within. subst (λ n. n ≤ 2147483647) (get_or_default numbers k 0 d within) (small k);
  few = few;
  fits = fits;
}

-- the sources of a plane that has the same are those of the plane
pub same_sources : (r s : Raster) (connect : Connect) (choice : Choice) (numbers : List ℕ) (found : List PickedSource) → HaveSameSources r s connect choice
    → AreSourcesOf s connect choice numbers found → AreSourcesOf r connect choice numbers found
unfolding catalogue
same_sources r s connect choice numbers found same are = record {
  numbers_are = are.numbers_are ∙ sym same.numbers;
  nodes_are = record {
    rows = are.nodes_are.rows ∙ sym same.rows;
    representatives = are.nodes_are.representatives ∙ sym same.representatives;
  };
}
