use Rattle.std.proofs.Common.{◌≡◌, ◌≤◌, ◌*◌, ◌∙◌, ap, length, sym, subst, List}
use Rattle.std.specs.Prelude.{ℤ, Option}
use Rattle.comp_tree.specs.Limits.{value_bound}
use Rattle.comp_tree.specs.Raster.{Raster, HasValuesWithin}
use Rattle.comp_tree.proofs.Blocks.{length-marked, shown-some}
use Rattle.comp_tree.proofs.Marked.{from-marked_values, within-marked}
use Rattle.comp_tree.proofs.plane.Plane.marked.Goals as goal

pub invariant_of-result : goal.invariant_of-result
invariant_of-result c =
    subst (λ l. (length l ≡ c.self.inside.shape.width * c.self.inside.shape.height) × HasValuesWithin c.self.inside.most l × (c.self.inside.most ≤ value_bound (length l)))
    (sym ((rw c.in-Some.is at c.in_ok-pixels.ensures) ∙ shown-some c.self.inside.pixels c.args.marks)) (
      length-marked c.self.inside.pixels c.args.marks.now ∙ c.self.invariant.0,
      within-marked c.self.inside.most c.self.inside.pixels c.args.marks.now c.self.invariant.1,
      subst (λ n. c.self.inside.most ≤ value_bound n) (sym (length-marked c.self.inside.pixels c.args.marks.now)) c.self.invariant.2,
    )

pub returns-in-Some : goal.returns-in-Some
returns-in-Some c =
    ap (λ (values : List (Option ℤ)). let x : Raster = record { shape = c.self.inside.shape; values = values } in x)
    ((rw c.in-Some.is at c.in_ok-pixels.ensures) ∙ shown-some c.self.inside.pixels c.args.marks)
    ∙ rw (← c.self.view_is) (from-marked_values _ c.args.marks.now)
