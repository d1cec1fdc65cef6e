use Rattle.std.proofs.Common.{◌≤◌, length, subst}
use Rattle.comp_tree.specs.Limits.{value_bound}
use Rattle.comp_tree.specs.Raster.{Raster, HasValuesWithin}
use Rattle.comp_tree.proofs.plane.Plane.most.Goals as goal

pub returns-clause-within : goal.returns-clause-within
returns-clause-within c = subst (λ (plane : Raster). HasValuesWithin c.self.inside.most plane.values) c.self.view_is c.self.invariant.1

pub returns-clause-bounded : goal.returns-clause-bounded
returns-clause-bounded c = subst (λ (plane : Raster). c.self.inside.most ≤ value_bound (length plane.values)) c.self.view_is c.self.invariant.2
