use Rattle.std.proofs.Common.{◌∙◌, ap, sym, w64, SFits, rules}
use Rattle.std.proofs.lemmas.Int.{to_z-of_z}
use Rattle.comp_tree.specs.Raster.{Raster}
use Rattle.source_pick.proofs.Exported.{shape-kept}
use Rattle.tree_products.specs.Catalogues.{detected_hdus}
use Rattle.tree_products.proofs.Detections.{detection_same}
use Rattle.tree_products.proofs.product.without_far.Goals as goal

pub returns : goal.returns
returns g c =
    let fits : SFits w64 c.args.choice.threshold = search rules in
    ap (λ (r : Raster). detected_hdus r c.args.connect c.args.choice) c.compact.ensures
    ∙ sym (detection_same c.args.plane c.clear_far.new.plane c.args.connect c.args.choice
    (sym (ap (λ (r : Raster). r.shape) c.in_ok-clear_far.ensures.kept ∙ shape-kept c.args.plane c.args.connect _))
    (c.in_ok-clear_far.ensures.same c.args.choice (sym (to_z-of_z w64 c.args.choice.threshold fits))))
