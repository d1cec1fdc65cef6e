use Rattle.std.proofs.Common.{rules, w64, ◌≢◌, ◌<◌, length, get_or, not, sym, ap, ◌∙◌, arith}
use Rattle.std.proofs.lemmas.Int.{to_z-of_z}
use mir.Val.{SFits}
use Rattle.comp_tree.specs.Raster.{is_at_least, level}
use Rattle.comp_tree.specs.Forest.{no_node, link_of}
use Rattle.tree_canon.proofs.Finding.{read_link, IsPixelLink, pixel_link, canonical-none, canonical-some}
use Rattle.tree_canon.proofs.rows.is_canonical.Goals as goal

pub returns-then-link : goal.returns-then-link
returns-then-link c =
    let lt : c.args.p < length c.args.links.now = omega (arith, c.requires.one_each, c.requires.pixel) in
    c.is_defined.ensures ∙ canonical-none c.args.plane.now c.args.links.now c.args.p (sym (read_link c.args.links.now c.args.p lt) ∙ c.if-link.true)

pub is_at_least-requires : goal.is_at_least-requires
is_at_least-requires c =
    let lt : c.args.p < length c.args.links.now = omega (arith, c.requires.one_each, c.requires.pixel) in
    let at = read_link c.args.links.now c.args.p lt in
    let k : IsPixelLink c.args.plane.now c.args.links.now c.args.p =
    pixel_link c.args.plane.now c.args.links.now c.args.p c.requires.forest lt (λ e. c.if-link.false (at ∙ e)) in
    omega (arith, at, k.below, c.requires.one_each)

pub returns : goal.returns
returns c =
    let r = c.args.plane.now in
    let lt : c.args.p < length c.args.links.now = omega (arith, c.requires.one_each, c.requires.pixel) in
    let at = read_link c.args.links.now c.args.p lt in
    let some : link_of 0 c.args.links.now c.args.p ≢ no_node = λ e. c.if-link.false (at ∙ e) in
    let k : IsPixelLink r c.args.links.now c.args.p = pixel_link r c.args.links.now c.args.p c.requires.forest lt some in
    let fits : SFits w64 c.level.result = search rules in
    ap not (c.is_at_least.ensures ∙ ap (λ h. is_at_least r h (get_or c.args.links.now c.args.p 0)) (to_z-of_z w64 c.level.result fits ∙ c.level.ensures)
    ∙ ap (is_at_least r (level r c.args.p)) at)
    ∙ canonical-some r c.args.links.now c.args.p k.defined some
