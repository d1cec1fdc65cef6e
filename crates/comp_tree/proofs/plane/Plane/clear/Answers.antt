use Rattle.std.proofs.Common.{◌∙◌, ◌≤◌, sym, ap, subst, length}
use Rattle.std.specs.Prelude.{None}
use Rattle.std.proofs.lemmas.List.{length-set}
use Rattle.comp_tree.specs.Limits.{value_bound}
use Rattle.comp_tree.specs.Raster.{HasValuesWithin}
use Rattle.comp_tree.proofs.Values.{within-set}
use Rattle.comp_tree.proofs.plane.Plane.clear.Goals as goal

pub invariant_of-self : goal.invariant_of-self
invariant_of-self c = (
  ap length c.clear.ensures ∙ length-set c.self.inside.pixels c.args.p None ∙ c.self.invariant.0,
  subst (HasValuesWithin c.self.inside.most) (sym c.clear.ensures)
      (within-set c.self.inside.most c.self.inside.pixels c.args.p None c.self.invariant.1 tt),
  subst (λ n. c.self.inside.most ≤ value_bound n) (sym (ap length c.clear.ensures ∙ length-set c.self.inside.pixels c.args.p None)) c.self.invariant.2,
)
