use Rattle.std.proofs.Common.{◌≤◌, ◌∙◌, sym, subst}
use Rattle.comp_tree.specs.Kept.{kept_items, room_of}
use Rattle.comp_tree.specs.Raster.{Painting, HasValuesWithin}
use Rattle.comp_tree.proofs.Values.{within_more}
use Rattle.comp_tree.proofs.Runs.{within_put}
use Rattle.comp_tree.proofs.canvas.Canvas.put_pixels.Goals as goal

pub put_run-requires-clause-room : goal.put_run-requires-clause-room
put_run-requires-clause-room c p v e =
    let given : HasValuesWithin c.self.inside.most c.args.run.now =
    subst (λ (canvas : Painting). HasValuesWithin canvas.most c.args.run.now) (sym c.self.view_is) c.requires.in_range in
    within_more c.self.inside.most (room_of c.self.inside.pixels) v c.self.invariant.3 (given p v e)

pub invariant_of-self : goal.invariant_of-self
invariant_of-self c = (
  c.put_run.ensures.one_each ∙ c.self.invariant.0,
  within_put c.self.inside.most c.args.first (kept_items c.self.inside.pixels) c.args.run.now (kept_items c.put_run.new.self) c.self.invariant.1
      (subst (λ (canvas : Painting). HasValuesWithin canvas.most c.args.run.now) (sym c.self.view_is) c.requires.in_range)
      c.put_run.ensures.inside c.put_run.ensures.before c.put_run.ensures.behind,
  c.self.invariant.2,
  subst (λ n. c.self.inside.most ≤ n) (sym c.put_run.ensures.room) c.self.invariant.3,
)
