-- Model: the outlines of nodes: the part of their sums that filters ask for.
use Rattle.std.specs.Prelude.{◌≡◌, List, map}
use Rattle.comp_tree.specs.declared.shape.Connect.{Connect}
use Rattle.comp_tree.specs.Raster.{Raster, IsPlane, HasValuesInRange}
use Rattle.comp_tree.specs.ComponentTree.{ComponentTree}
use Rattle.comp_tree.specs.Components.{tree_of}
use Rattle.node_sums.specs.declared.entry.Sums.{Sums}
use Rattle.node_sums.specs.declared.outline.Outline.{Outline}
use Rattle.node_sums.specs.Sums.{sums_in}

-- of sums over some pixels their number, the sum of their values, and their box
abbrev pub outline_of : Sums → Outline
outline_of s = record {
  area = s.area;
  r = s.r;
  xmin = s.xmin;
  xmax = s.xmax;
  ymin = s.ymin;
  ymax = s.ymax;
}

-- the outlines of all nodes of the plane's tree, in the order of their numbers
abbrev pub outlines_in : Raster → Connect → List Outline
outlines_in r connect = map outline_of (sums_in r connect)

-- the tree and the outlines are those of the plane r, for some connectivity
pub record AreOutlinesOfPlane (r : Raster) (tree : ComponentTree) (outlines : List Outline) : Type 0 where
  pub connect : Connect
  pub tree_is : tree ≡ tree_of r connect
  pub outlines_are : outlines ≡ outlines_in r connect

-- the outlines are the tree's: some plane has this tree for some connectivity, and these outlines
pub record AreOutlinesOfTree (tree : ComponentTree) (outlines : List Outline) : Type 0 where
  pub plane : Raster
  pub one_each : IsPlane plane
  pub in_range : HasValuesInRange plane.values
  pub of_plane : AreOutlinesOfPlane plane tree outlines

-- what is said of each plane and connectivity that have this tree and these outlines
abbrev pub ForEachPlaneOutlined : ComponentTree → List Outline → (Raster → Connect → Type 0) → Type 0
ForEachPlaneOutlined tree outlines Statement =
    (plane : Raster) (connect : Connect) → tree ≡ tree_of plane connect → outlines ≡ outlines_in plane connect → Statement plane connect
