use Rattle.std.proofs.Common.{◌≤◌, ◌*◌, ◌∙◌, ℕ, length, sym, subst, arith}
use Rattle.comp_tree.specs.Limits.{value_bound}
use Rattle.comp_tree.specs.Raster.{HasValuesWithin}
use Rattle.source_sheet.proofs.Bounds.{bound_falls}
use Rattle.source_sheet.proofs.copying.copy_groups.Goals as goal

pub blank_within-requires : goal.blank_within-requires
blank_within-requires c =
    let falls : value_bound (length c.args.plane.now.values) ≤ value_bound (c.args.layout.now.shape.width * c.args.layout.now.shape.height) =
    bound_falls (c.args.layout.now.shape.width * c.args.layout.now.shape.height) (length c.args.plane.now.values) c.requires.few in
    omega (arith, falls, c.most.ensures.bounded)

pub copy_group-requires-clause-within : goal.copy_group-requires-clause-within
copy_group-requires-clause-within c =
    subst (λ (most : ℕ). HasValuesWithin most c.args.plane.now.values) (sym (c.loop-end.invariant.1 ∙ c.in_ok-canvas.ensures.most)) c.most.ensures.within
