use Rattle.std.proofs.Common.{sym, subst}
use Rattle.comp_tree.specs.Raster.{Raster, HasValuesWithin}
use Rattle.comp_tree.proofs.plane.Plane.farthest.Goals as goal

pub returns-clause-within : goal.returns-clause-within
returns-clause-within c = subst (λ (plane : Raster). HasValuesWithin c.farthest.result plane.values) c.self.view_is c.farthest.ensures.within

pub returns-clause-least : goal.returns-clause-least
returns-clause-least c most within =
    c.farthest.ensures.least most (subst (λ (plane : Raster). HasValuesWithin most plane.values) (sym c.self.view_is) within)
