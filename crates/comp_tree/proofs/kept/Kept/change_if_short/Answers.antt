use Rattle.std.proofs.Common.{◌∙◌, ap, subst, sym, List}
use Rattle.std.specs.Prelude.{ℤ, Option}
use Rattle.comp_tree.specs.Bands.{LeavesWithin}
use Rattle.comp_tree.specs.Kept.{kept_items}
use Rattle.comp_tree.specs.Numbers.{most_short}
use Rattle.comp_tree.proofs.kept.Kept.change_if_short.Goals as goal

pub change_short_bands-requires-clause-within : goal.change_short_bands-requires-clause-within
change_short_bands-requires-clause-within g c =
    subst (λ (values : List (Option ℤ)). LeavesWithin most_short g.F.Fn c.args.change.now c.args.size values)
    (ap kept_items c.in-Short.is ∙ sym c.deref_mut.ensures.value) c.requires.within
