-- Bookkeeping: the links of strips, one after the other.
use Rattle.std.specs.Prelude.{◌≡◌, ℕ, ◌*◌, List, length}
use Rattle.comp_tree.specs.Raster.{IsPlane}
use Rattle.comp_tree.specs.Forest.{IsForest, StandsFor}
use Rattle.tree_join.specs.Cuts.{IsCut}
use Rattle.tree_join.specs.Strips.{IsStripPair}
use Rattle.strip_crew.specs.Run.{Plan, row_at}

-- the links of the strips below k, one after the other
pub record AreCopied (plan : Plan) (k : ℕ) (links : List ℕ) : Type 0 where
  pub count : length links ≡ row_at plan k * plan.plane.shape.width
  pub forest : IsForest plan.plane.values 0 links
  pub stands : StandsFor plan.plane.values 0 links (IsStripPair plan.plane.values plan.plane.shape.width plan.connect plan.cut k)

-- a plan over a plane, with a cut of its rows
pub record IsPlan (plan : Plan) : Type 0 where
  pub plane : IsPlane plan.plane
  pub cut : IsCut plan.plane.shape.height plan.cut
