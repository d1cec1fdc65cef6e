use Rattle.std.proofs.Common.{◌≡◌, ◌∙◌, sym, subst}
use Rattle.std.specs.Prelude.{ℤ, List, Option}
use Rattle.comp_tree.specs.Kept.{kept_items}
use Rattle.comp_tree.specs.Raster.{HasValuesWithin}
use Rattle.comp_tree.proofs.Blocks.{all-kept}
use Rattle.comp_tree.proofs.pixels.Pixels.farthest.Goals as goal

pub returns-in-None-clause-within : goal.returns-in-None-clause-within
returns-in-None-clause-within c =
    let all : kept_items c.self.inside.kept ≡ c.args.self.now = all-kept (λ runs. runs.items) c.self.inside.count c.self.inside.runs (kept_items c.self.inside.kept) c.self.invariant c.in-None.is ∙ c.self.view_is in
    subst (λ (values : List (Option ℤ)). HasValuesWithin c.farthest.result values) all c.farthest.ensures.within

pub returns-in-None-clause-least : goal.returns-in-None-clause-least
returns-in-None-clause-least c most within =
    let all : kept_items c.self.inside.kept ≡ c.args.self.now = all-kept (λ runs. runs.items) c.self.inside.count c.self.inside.runs (kept_items c.self.inside.kept) c.self.invariant c.in-None.is ∙ c.self.view_is in
    c.farthest.ensures.least most (subst (λ (values : List (Option ℤ)). HasValuesWithin most values) (sym all) within)
