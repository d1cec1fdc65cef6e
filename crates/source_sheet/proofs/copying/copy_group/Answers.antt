use Rattle.std.proofs.Common.{ℕ, sym, subst}
use Rattle.comp_tree.specs.Raster.{HasValuesWithin}
use Rattle.source_sheet.proofs.copying.copy_group.Goals as goal

pub copy_around-requires-clause-within : goal.copy_around-requires-clause-within
copy_around-requires-clause-within c =
    subst (λ (most : ℕ). HasValuesWithin most c.args.plane.now.values) (sym c.loop-k.invariant.1) c.requires.within
