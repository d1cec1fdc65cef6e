use Rattle.std.proofs.Common.{◌≡◌, ◌*◌, ◌≤◌, ◌∙◌, length, ap, sym, subst}
use Rattle.std.specs.Prelude.{Option, ℤ, List}
use Rattle.std.specs.Fork.{AcceptsChunksMut}
use Rattle.comp_tree.specs.Limits.{value_bound}
use Rattle.comp_tree.specs.Raster.{Raster, HasValuesWithin}
use Rattle.comp_tree.specs.Bands.{LeavesWithin}
use Rattle.comp_tree.proofs.Bands.{within-bands}
use Rattle.comp_tree.proofs.plane.Plane.change_bands.Goals as goal

pub change_bands-requires-clause-some : goal.change_bands-requires-clause-some
change_bands-requires-clause-some g c κs within = c.requires.some

pub change_bands-requires-clause-within : goal.change_bands-requires-clause-within
change_bands-requires-clause-within g c κs within =
    subst (λ (r : Raster). LeavesWithin c.args.most g.F.Fn c.args.change.now c.args.size r.values) (sym c.self.view_is) c.requires.within

pub change_bands-requires-clause-accepts : goal.change_bands-requires-clause-accepts
change_bands-requires-clause-accepts g c κs within =
    subst (λ (r : Raster). AcceptsChunksMut g.F.Fn c.args.change.now c.args.size r.values) (sym c.self.view_is) c.requires.accepts

pub invariant_of-self : goal.invariant_of-self
invariant_of-self g c = (
  c.change_bands.ensures.one_each ∙ c.self.invariant.0,
  within-bands c.args.most g.F.Fn c.args.change.now c.args.size c.self.inside.pixels c.change_bands.new.self
      (subst (λ (r : Raster). LeavesWithin c.args.most g.F.Fn c.args.change.now c.args.size r.values) (sym c.self.view_is) c.requires.within)
      c.change_bands.ensures.one_each c.in-Ok.ensures.changed,
  subst (λ n. c.args.most ≤ value_bound n) (ap (λ (r : Raster). length r.values) (sym c.self.view_is) ∙ sym c.change_bands.ensures.one_each) c.requires.bounded,
)

pub invariant_of-self-in-Err : goal.invariant_of-self-in-Err
invariant_of-self-in-Err g c =
    subst (λ (values : List (Option ℤ)). (length values ≡ c.self.inside.shape.width * c.self.inside.shape.height)
    × HasValuesWithin c.self.inside.most values × (c.self.inside.most ≤ value_bound (length values)))
    (sym c.in-Err.ensures.unchanged) c.self.invariant
