use Rattle.std.proofs.Common.{◌∙◌, ◌≤◌, ap, sym, subst, length}
use Rattle.comp_tree.specs.Limits.{value_bound}
use Rattle.comp_tree.specs.Raster.{HasValuesWithin}
use Rattle.comp_tree.proofs.plane.Plane.of_pixels.Goals as goal

pub invariant_of-result : goal.invariant_of-result
invariant_of-result c = (
  ap length c.of.ensures ∙ c.requires.one_each,
  subst (HasValuesWithin c.args.most) (sym c.of.ensures) c.requires.within,
  subst (λ l. c.args.most ≤ value_bound (length l)) (sym c.of.ensures) c.requires.bounded,
)
