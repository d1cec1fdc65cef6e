use Rattle.std.proofs.Common.{◌∙◌, sym, ap, subst}
use Rattle.std.proofs.lemmas.Result.{IfOk-weaker}
use Rattle.comp_tree.specs.declared.shape.Shape.{Shape}
use Rattle.comp_tree.specs.Raster.{Raster}
use Rattle.mesh_background.proofs.Exported.{residual_shape}
use Rattle.mesh_background.specs.Residuals.{residual_with}
use Rattle.source_pick.proofs.Exported.{shape-kept}
use Rattle.tile_make.specs.Told.{IsPlacedWell}
use Rattle.tile_make.proofs.Made.{tile_made, tile_of_window}
use Rattle.tile_make.proofs.making.make_placed.Goals as goal

pub tell-requires-clause-placed : goal.tell-requires-clause-placed
tell-requires-clause-placed g c = λ κs lives.
    let order = c.args.order.now in
    subst (λ (s : Shape). IsPlacedWell c.args.place.now s order.mesh)
    (sym (ap (λ (r : Raster). r.shape) c.in_ok-plane.ensures.kept
    ∙ shape-kept (residual_with c.args.empty c.args.image order.mesh order.flat) order.connect c.args.choice.now.threshold
    ∙ residual_shape c.args.empty c.args.image order.mesh order.flat))
    c.requires.placed

pub returns-clause-made : goal.returns-clause-made
returns-clause-made g c =
    IfOk-weaker c.tell.result _ _
    (λ tile told r plane shape seen.
    tile_made c.laws_of_making.ensures c.args.order.now c.args.empty c.args.choice.now c.args.place.now c.args.image c.in_ok-plane.plane c.in_ok-sure.sure tile
    c.requires.placed c.in_ok-sure.ensures.known c.in_ok-plane.ensures.kept c.in_ok-plane.ensures.same told r plane shape seen)
    c.tell.ensures.told

pub returns-clause-told : goal.returns-clause-told
returns-clause-told g c =
    IfOk-weaker c.tell.result _ _
    (λ tile told. tile_of_window c.args.order.now c.args.empty c.args.choice.now c.args.place.now c.args.image c.in_ok-plane.plane c.in_ok-sure.sure tile
    c.in_ok-sure.ensures.exact c.in_ok-plane.ensures.kept c.in_ok-plane.ensures.same told)
    c.tell.ensures.told
