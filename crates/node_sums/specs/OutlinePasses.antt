-- Bookkeeping: outlines are added up as the sums are of which they are parts.
use Rattle.std.specs.Prelude.{◌≡◌, ◌+◌, ◌≤◌, ◌+ℤ◌, List, map}
use Rattle.node_sums.specs.declared.entry.Sums.{Sums}
use Rattle.node_sums.specs.declared.outline.Outline.{Outline}
use Rattle.node_sums.specs.Sizes.{IsUpTo, total_bound}
use Rattle.comp_tree.specs.declared.shape.Connect.{Connect}
use Rattle.comp_tree.specs.Raster.{Raster, IsPlane, HasValuesInRange}
use Rattle.comp_tree.specs.ComponentTree.{ComponentTree}
use Rattle.comp_tree.specs.Components.{tree_of}
use Rattle.node_sums.specs.Sums.{sums_in}
use Rattle.node_sums.specs.Outlines.{outline_of}

-- the numbers of two outlines can be added
pub record FitTogether (a b : Outline) : Type 0 where
  pub area : a.area + b.area ≤ 2147483647
  pub r : IsUpTo total_bound (a.r +ℤ b.r)

-- the outlines are those of sums of which this holds
pub record AreOutlinesOf (Holds : List Sums → Type 0) (outlines : List Outline) : Type 0 where
  pub sums : List Sums
  pub outlines_are : outlines ≡ map outline_of sums
  pub holds : Holds sums

-- the tree and the sums are those of the plane r, for some connectivity
pub record AreOfPlane (r : Raster) (tree : ComponentTree) (sums : List Sums) : Type 0 where
  pub connect : Connect
  pub tree_is : tree ≡ tree_of r connect
  pub sums_are : sums ≡ sums_in r connect

-- the sums are the tree's: some plane has this tree for some connectivity, and these sums
pub record AreTheTrees (tree : ComponentTree) (sums : List Sums) : Type 0 where
  pub plane : Raster
  pub one_each : IsPlane plane
  pub in_range : HasValuesInRange plane.values
  pub of_plane : AreOfPlane plane tree sums
