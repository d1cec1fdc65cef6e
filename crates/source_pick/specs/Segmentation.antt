-- Model: the segmentation map: to which of some disjoint nodes each pixel belongs.
use Rattle.std.specs.Prelude.{ℕ, List, map}
use Rattle.comp_tree.specs.declared.shape.Connect.{Connect}
use Rattle.comp_tree.specs.Raster.{Raster, pixels}
use Rattle.node_sums.specs.DisjointNodes.{listed_number_at}
use Rattle.source_pick.specs.declared.choice.Choice.{Choice}
use Rattle.source_pick.specs.Sources.{sources}

-- the map over the nodes of a list: a number for each pixel
unfoldable pub segmentation_of : Raster → Connect → List ℕ → List ℕ
segmentation_of r connect marked = map (listed_number_at r connect marked) (pixels r)

-- the map over the sources
unfoldable pub segmentation : Raster → Connect → Choice → List ℕ
segmentation r connect choice = segmentation_of r connect (sources r connect choice)
