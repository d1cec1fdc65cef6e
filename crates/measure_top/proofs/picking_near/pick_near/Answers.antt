use Rattle.std.proofs.Common.{◌∙◌, ap, sym, subst, w64, SFits, IfOk, rules}
use Rattle.std.proofs.lemmas.Int.{to_z-of_z}
use Rattle.std.proofs.lemmas.Result.{IfOk-weaker}
use Rattle.comp_tree.specs.declared.shape.Shape.{Shape}
use Rattle.comp_tree.specs.Raster.{Raster}
use Rattle.source_pick.proofs.Exported.{shape-kept}
use Rattle.measure_top.specs.Picks.{CanBeListed}
use Rattle.measure_top.proofs.PickedSources.{same_sources}
use Rattle.measure_top.proofs.picking_near.pick_near.Goals as goal

pub returns-clause-exact : goal.returns-clause-exact
returns-clause-exact g c =
    let fits : SFits w64 c.args.choice.now.threshold = search rules in
    IfOk-weaker c.pick_of_tree.result _ _
    (λ picked are. same_sources c.args.plane.now c.in_ok-near.near c.args.order.connect c.args.choice.now picked.map.items picked.nodes.items
    (c.in_ok-near.ensures.same c.args.choice.now (sym (to_z-of_z w64 c.args.choice.now.threshold fits)))
    (are c.args.order.connect c.in_ok-tree.ensures)) c.pick_of_tree.ensures.exact

pub returns-clause-listed : goal.returns-clause-listed
returns-clause-listed g c =
    subst (λ (s : Shape). IfOk c.pick_of_tree.result (λ picked. CanBeListed s picked.map.items picked.nodes.items))
    (ap (λ (r : Raster). r.shape) c.in_ok-near.ensures.kept ∙ shape-kept c.args.plane.now c.args.order.connect _)
    c.pick_of_tree.ensures.listed
