use Rattle.std.proofs.Common.{◌∙◌, sym, ap, subst}
use Rattle.std.specs.Prelude.{ℤ, List, Option}
use Rattle.comp_tree.specs.Kept.{kept_items}
use Rattle.comp_tree.specs.Raster.{HasValuesWithin}
use Rattle.comp_tree.proofs.kept.Kept.farthest.Goals as goal

pub returns-in-Wide-clause-within : goal.returns-in-Wide-clause-within
returns-in-Wide-clause-within c =
    subst (λ (values : List (Option ℤ)). HasValuesWithin c.farthest_wide.result values) (c.deref.ensures.value ∙ ap kept_items (sym c.in-Wide.is))
    c.farthest_wide.ensures.within

pub returns-in-Wide-clause-least : goal.returns-in-Wide-clause-least
returns-in-Wide-clause-least c most within =
    c.farthest_wide.ensures.least most
    (subst (λ (values : List (Option ℤ)). HasValuesWithin most values) (sym (c.deref.ensures.value ∙ ap kept_items (sym c.in-Wide.is))) within)

pub returns-in-Short-clause-within : goal.returns-in-Short-clause-within
returns-in-Short-clause-within c =
    subst (λ (values : List (Option ℤ)). HasValuesWithin c.farthest_short.result values) (c.deref-in-Short.ensures.value ∙ ap kept_items (sym c.in-Short.is))
    c.farthest_short.ensures.within

pub returns-in-Short-clause-least : goal.returns-in-Short-clause-least
returns-in-Short-clause-least c most within =
    c.farthest_short.ensures.least most
    (subst (λ (values : List (Option ℤ)). HasValuesWithin most values) (sym (c.deref-in-Short.ensures.value ∙ ap kept_items (sym c.in-Short.is))) within)
