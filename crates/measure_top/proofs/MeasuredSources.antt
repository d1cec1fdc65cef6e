-- What is written of the sources of one plane that are measured in another.
use Rattle.std.proofs.Common.{◌≡◌, ◌∙◌, ap, sym, ℕ, ◌*◌, Bool, List, Result, Ok, Err, IfOk, ℤ}
use Rattle.comp_tree.specs.declared.shape.Shape.{Shape}
use Rattle.comp_tree.specs.declared.shape.Connect.{Connect}
use Rattle.comp_tree.specs.Raster.{Raster, IsPlane}
use Rattle.comp_tree.specs.ComponentTree.{ComponentTree}
use Rattle.comp_tree.specs.Components.{tree_of}
use Rattle.mesh_background.specs.Residuals.{residual_of, residual_with}
use Rattle.fits_write.specs.Columns.{IsTable}
use Rattle.source_pick.specs.declared.choice.Choice.{Choice}
use Rattle.source_pick.specs.Sources.{sources}
use Rattle.dual_measure.specs.Measures.{IsPlanesTree}
use Rattle.orders.specs.declared.words.Order.{Order}
use Rattle.measure_top.specs.declared.measuring.Measured.{Measured}
use Rattle.source_sheet.specs.declared.tops.PickedSource.{PickedSource}
use Rattle.measure_top.specs.MeasuredCatalogues.{measured_hdus, rows_with_measures, measured_sources, measured_output}
use Rattle.fits_write.specs.CatalogueColumns.{measured_columns}
use Rattle.measure_top.specs.MeasuredDetections.{IsMeasuredDetection}
use Rattle.measure_top.specs.Cuts.{cut}
use Rattle.measure_top.specs.Picks.{AreSourcesOf, CanBeListed, HaveBasesFrom, all_cells}
use Rattle.measure_top.proofs.InCut.{sources_measured, plane-cut, same_shape-cut}

-- a map with a number for each pixel, and a table, can be written
pub can_be_put : (plane : Raster) (shape : Shape) (numbers : List ℕ) (found : List PickedSource) (cells : List ℤ) → shape ≡ plane.shape
    → CanBeListed plane.shape numbers found
    → IsTable measured_columns cells → IsMeasuredDetection shape numbers cells
can_be_put plane shape numbers found cells same listed table = record {
  one_each = listed.one_each ∙ sym (ap (λ (s : Shape). s.width * s.height) same);
  small = listed.small;
  table = table;
}

-- ---- what they hold

-- the map over the sources and their rows are what is written of them
pub are_sources : (plane left values : Raster) (connect : Connect) (choice : Choice) (shape : Shape) (h : ℤ) (numbers : List ℕ) (found : List PickedSource)
    (cells : List ℤ) → IsPlane plane
    → shape ≡ plane.shape → AreSourcesOf plane connect choice numbers found → left ≡ cut plane h → HaveBasesFrom h found
    → cells ≡ all_cells left values connect found
    → measured_hdus shape numbers cells ≡ measured_sources plane values connect choice
unfolding measured_sources
are_sources plane left values connect choice shape h numbers found cells one same are is low cells_are =
    λ i. measured_hdus (same i) (are.numbers_are i) (rows i)
  where
    rows : cells ≡ rows_with_measures plane values connect (sources plane connect choice)
    rows = cells_are ∙ sources_measured plane left values connect choice h found one is are.nodes_are low

-- ---- the tree of the cut plane

pub cut_tree : (plane left : Raster) (connect : Connect) (h : ℤ) (tree : ComponentTree) → IsPlane plane → left ≡ cut plane h → tree ≡ tree_of left connect
    → IsPlanesTree tree
cut_tree plane left connect h tree one is tree_is = record {
  plane = left;
  one_each = plane-cut plane left h one is;
  connect = connect;
  tree_is = tree_is;
}

pub cut_tree_shape : (plane left values : Raster) (connect : Connect) (h : ℤ) (tree : ComponentTree) → left ≡ cut plane h → tree ≡ tree_of left connect
    → plane.shape ≡ values.shape
    → values.shape ≡ tree.shape
unfolding tree_of
cut_tree_shape plane left values connect h tree is tree_is same = sym same ∙ sym (ap (λ (t : ComponentTree). t.shape) tree_is ∙ same_shape-cut plane left h is)

-- residuals have the shapes of their images
pub residuals_alike : (image other plane values : Raster) (mesh : ℕ) (flat : Bool) → plane ≡ residual_of image mesh flat → values ≡ residual_of other mesh flat
    → image.shape ≡ other.shape
    → plane.shape ≡ values.shape
unfolding residual_with
residuals_alike image other plane values mesh flat first second same = ap (λ (r : Raster). r.shape) first ∙ same ∙ sym (ap (λ (r : Raster). r.shape) second)

pub made_of_images : {E : Type 0} (order : Order) (choice : Choice) (image other plane values : Raster) (made : Result Measured E)
    → plane ≡ residual_of image order.mesh order.flat
    → values ≡ residual_of other order.mesh order.flat
    → IfOk made (λ found. measured_hdus found.shape found.map.items found.cells.items ≡ measured_sources plane values order.connect choice)
    → IfOk made (λ found. measured_hdus found.shape found.map.items found.cells.items ≡ measured_output order choice image other)
unfolding measured_output
made_of_images order choice image other plane values (Ok found) first second bytes = bytes ∙ (λ i. measured_sources (first i) (second i) order.connect choice)
made_of_images order choice image other plane values (Err e) first second bytes = tt
