use Rattle.std.proofs.Common.{◌∙◌, sym, ap, subst, arith}
use Rattle.std.specs.Prelude.{ℤ, pos, ◌-ℤ◌, ◌*ℤ◌, ◌≤ℤ◌}
use Rattle.std.proofs.lemmas.Option.{get_or_from_slice_get}
use Rattle.node_sums.specs.declared.outline.Outline.{Outline}
use Rattle.node_sums.specs.Flux.{base_of}
use Rattle.node_sums.proofs.FluxOfSums.{handed_sizes, handed-flux}
use Rattle.node_sums.proofs.OutlineFlux.{outlines_rows, outline_sizes, outlined_flux, outlined_flux_not_negative}
use Rattle.node_sums.proofs.measures.flux_by_outlines.Goals as goal

pub bounds-outlines-n : goal.bounds-outlines-n
bounds-outlines-n c = omega (arith, c.requires.node, outlines_rows c.args.tree.now c.args.outlines.now c.requires.outlines)

pub above_base-requires-clause-sizes : goal.above_base-requires-clause-sizes
above_base-requires-clause-sizes c =
    handed_sizes _ _ _ (outline_sizes c.args.tree.now c.args.outlines.now c.args.n _ c.requires.outlines c.requires.node)

pub returns-clause-exact : goal.returns-clause-exact
returns-clause-exact c = λ plane connect e f.
    let sizes = outline_sizes c.args.tree.now c.args.outlines.now c.args.n _ c.requires.outlines c.requires.node in
    handed-flux _ _ _ c.above_base.result sizes c.above_base.ensures
    ∙ outlined_flux plane connect c.args.tree.now c.args.outlines.now c.args.n _ e f c.requires.node

pub returns-clause-of_outlines : goal.returns-clause-of_outlines
returns-clause-of_outlines c = λ outline g.
    let sizes = outline_sizes c.args.tree.now c.args.outlines.now c.args.n _ c.requires.outlines c.requires.node in
    handed-flux _ _ _ c.above_base.result sizes c.above_base.ensures
    ∙ ap (λ (o : Outline). o.r -ℤ base_of c.args.tree.now c.args.n *ℤ pos o.area) (get_or_from_slice_get c.args.outlines.now c.args.n outline _ g)

pub returns-clause-never_negative : goal.returns-clause-never_negative
returns-clause-never_negative c =
    let sizes = outline_sizes c.args.tree.now c.args.outlines.now c.args.n _ c.requires.outlines c.requires.node in
    subst (λ (z : ℤ). pos 0 ≤ℤ z) (sym (handed-flux _ _ _ c.above_base.result sizes c.above_base.ensures))
    (outlined_flux_not_negative c.args.tree.now c.args.outlines.now c.args.n _ c.requires.outlines c.requires.node)
