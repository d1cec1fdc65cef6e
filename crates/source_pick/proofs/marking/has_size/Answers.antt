use Rattle.std.proofs.Common.{refl, rules}
use mir.Syntax.{w64}
use mir.Val.{SFits}
use Rattle.source_pick.proofs.PassesReadings.{of_trees, outlines_inside, outline-read, at_most-read}
use Rattle.source_pick.proofs.PassesStrong.{small_area, large_area}
use Rattle.source_pick.proofs.marking.has_size.Goals as goal

pub bounds-outlines-n : goal.bounds-outlines-n
bounds-outlines-n c =
    outlines_inside c.requires.outlines.plane c.requires.outlines.of_plane.connect c.args.tree.now c.args.outlines.now c.args.n
    (of_trees c.args.tree.now c.args.outlines.now c.requires.outlines) c.requires.node

pub returns-then-outlines-n : goal.returns-then-outlines-n
returns-then-outlines-n c = λ r connect of_tree of_outlines is_plane.
    small_area r connect c.args.choice.now c.args.n _
    (outline-read r connect c.args.tree.now c.args.outlines.now c.args.n _ (record { plane = is_plane; tree_is = of_tree; outlines_are = of_outlines }) c.requires.node)
    c.if-outlines-n.true

pub returns : goal.returns
returns c = λ r connect of_tree of_outlines is_plane.
    let least : SFits w64 c.args.choice.now.min_flux = search rules in
    let found : SFits w64 c.flux_by_outlines.result = search rules in
    large_area r connect c.args.choice.now c.args.n _ _
    (outline-read r connect c.args.tree.now c.args.outlines.now c.args.n _ (record { plane = is_plane; tree_is = of_tree; outlines_are = of_outlines }) c.requires.node)
    c.if-outlines-n.false
    (at_most-read c.args.choice.now.min_flux c.flux_by_outlines.result _ _ least found refl (c.flux_by_outlines.ensures.exact r connect of_tree of_outlines))
