use Rattle.std.proofs.Common.{◌≤◌, ◌∙◌, sym, ap, subst, length}
use Rattle.std.specs.Prelude.{ℤ, List, Option, IfSome}
use Rattle.comp_tree.specs.Limits.{IsWithin}
use Rattle.std.proofs.lemmas.List.{length-set}
use Rattle.comp_tree.specs.Kept.{kept_items, room_of}
use Rattle.comp_tree.specs.Raster.{Painting, HasValuesWithin}
use Rattle.comp_tree.proofs.Values.{within-set, some_within}
use Rattle.comp_tree.proofs.canvas.Canvas.set.Goals as goal

pub set-requires-clause-room : goal.set-requires-clause-room
set-requires-clause-room c =
    some_within c.self.inside.most (room_of c.self.inside.pixels) c.args.value c.self.invariant.3
    (subst (λ (canvas : Painting). IfSome c.args.value (λ v. IsWithin canvas.most v)) (sym c.self.view_is) c.requires.in_range)

pub invariant_of-self : goal.invariant_of-self
invariant_of-self c = (
  ap length c.set.ensures.items ∙ length-set (kept_items c.self.inside.pixels) c.args.p c.args.value ∙ c.self.invariant.0,
  subst (HasValuesWithin c.self.inside.most) (sym c.set.ensures.items)
      (within-set c.self.inside.most (kept_items c.self.inside.pixels) c.args.p c.args.value c.self.invariant.1
      (subst (λ (canvas : Painting). IfSome c.args.value (λ v. IsWithin canvas.most v)) (sym c.self.view_is) c.requires.in_range)),
  c.self.invariant.2,
  subst (λ n. c.self.inside.most ≤ n) (sym c.set.ensures.room) c.self.invariant.3,
)

pub returns : goal.returns
returns c =
    rw (← c.self.view_is)
    (ap (λ (values : List (Option ℤ)). let painted : Painting = record { shape = c.self.inside.shape; values = values; most = c.self.inside.most } in painted)
    c.set.ensures.items)
