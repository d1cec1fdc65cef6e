use Rattle.std.proofs.Common.{◌≤◌, sym, subst, length}
use Rattle.comp_tree.specs.Limits.{value_bound}
use Rattle.comp_tree.specs.Raster.{Painting}
use Rattle.comp_tree.proofs.canvas.Canvas.shape.Goals as goal

pub returns-clause-bounded : goal.returns-clause-bounded
returns-clause-bounded c =
    subst (λ (canvas : Painting). canvas.most ≤ value_bound (length canvas.values)) c.self.view_is
    (subst (λ n. c.self.inside.most ≤ value_bound n) (sym c.self.invariant.0) c.self.invariant.2)
