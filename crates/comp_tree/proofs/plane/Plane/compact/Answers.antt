use Rattle.std.proofs.Common.{◌≡◌, ◌≤◌, ◌*◌, ◌∙◌, sym, ap, subst, length, List}
use Rattle.std.specs.Prelude.{ℤ, Option}
use Rattle.comp_tree.specs.Limits.{value_bound}
use Rattle.comp_tree.specs.Raster.{Raster, HasValuesWithin}
use Rattle.comp_tree.proofs.Blocks.{shown-none}
use Rattle.comp_tree.proofs.plane.Plane.compact.Goals as goal

pub invariant_of-self : goal.invariant_of-self
invariant_of-self c =
    subst (λ l. (length l ≡ c.self.inside.shape.width * c.self.inside.shape.height) × HasValuesWithin c.self.inside.most l × (c.self.inside.most ≤ value_bound (length l)))
    (sym (c.replace_by.ensures ∙ (rw c.in-Some.is at c.in_ok-pixels.ensures) ∙ shown-none c.self.inside.pixels)) c.self.invariant

pub returns-in-Some : goal.returns-in-Some
returns-in-Some c =
    ap (λ (values : List (Option ℤ)). let x : Raster = record { shape = c.self.inside.shape; values = values } in x)
    (c.replace_by.ensures ∙ (rw c.in-Some.is at c.in_ok-pixels.ensures) ∙ shown-none c.self.inside.pixels) ∙ c.self.view_is
