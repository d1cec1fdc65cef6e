use Rattle.std.proofs.Common.{rules, ◌^◌, ◌<◌, subst, sym}
use Rattle.std.specs.Prelude.{ℤ}
use mir.Syntax.{w64, w128}
use mir.Val.{SFits}
use Rattle.source_pick.proofs.PassesStrong.{part_fits, product-read, contrast-read}
use Rattle.source_pick.proofs.marking.has_part.Goals as goal

pub overflow_mul-result-2 : goal.overflow_mul-result-2
overflow_mul-result-2 c =
    let whole : SFits w64 c.flux_by_outlines-whole.result = search rules in
    let few : c.args.choice.now.contrast < 2 ^ 32 = search rules in
    subst (λ (z : ℤ). SFits w128 z) (sym (product-read c.args.choice.now.contrast c.flux_by_outlines-whole.result few whole))
    (part_fits c.args.choice.now.contrast c.flux_by_outlines-whole.result few whole)

pub returns : goal.returns
returns c = λ r connect of_tree of_outlines is_plane.
    let whole : SFits w64 c.flux_by_outlines-whole.result = search rules in
    let part : SFits w64 c.flux_by_outlines-part.result = search rules in
    let few : c.args.choice.now.contrast < 2 ^ 32 = search rules in
    contrast-read r connect c.args.choice.now c.args.n c.args.entry c.flux_by_outlines-whole.result c.flux_by_outlines-part.result few whole part
    (c.flux_by_outlines-whole.ensures.exact r connect of_tree of_outlines) (c.flux_by_outlines-part.ensures.exact r connect of_tree of_outlines)
