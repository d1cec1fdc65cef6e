use Rattle.std.proofs.Common.{subst}
use Rattle.comp_tree.specs.Raster.{Raster, HasValuesInRange}
use Rattle.comp_tree.proofs.Values.{in_range-of_within}
use Rattle.comp_tree.proofs.plane.Plane.shape.Goals as goal

pub returns-clause-in_range : goal.returns-clause-in_range
returns-clause-in_range c =
    subst (λ (plane : Raster). HasValuesInRange plane.values) c.self.view_is
    (in_range-of_within c.self.inside.most c.self.inside.pixels c.self.invariant.1 c.self.invariant.2)
