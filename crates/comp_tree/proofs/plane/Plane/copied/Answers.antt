use Rattle.std.proofs.Common.{◌≡◌, ◌≤◌, ◌*◌, sym, subst, length}
use Rattle.comp_tree.specs.Limits.{value_bound}
use Rattle.comp_tree.specs.Raster.{HasValuesWithin}
use Rattle.comp_tree.proofs.plane.Plane.copied.Goals as goal

pub invariant_of-result : goal.invariant_of-result
invariant_of-result c =
    subst (λ l. (length l ≡ c.self.inside.shape.width * c.self.inside.shape.height) × HasValuesWithin c.self.inside.most l × (c.self.inside.most ≤ value_bound (length l))) (sym c.in_ok-pixels.ensures) c.self.invariant
