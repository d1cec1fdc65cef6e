use Rattle.std.proofs.Common.{sym, ◌∙◌, ap}
use Rattle.comp_tree.specs.declared.shape.Shape.{Shape}
use Rattle.tile_make.specs.Placed.{is_tile_place}
use Rattle.tile_make.proofs.Places.{well_placed}
use Rattle.tile_make.proofs.making.make_tile.Goals as goal

pub make_placed-requires-clause-placed : goal.make_placed-requires-clause-placed
make_placed-requires-clause-placed g c = λ κs lives.
    well_placed c.args.place.now c.args.image.shape c.args.order.now.mesh
    (ap (λ (s : Shape). is_tile_place c.args.place.now s c.args.order.now.mesh) (sym c.shape.ensures.same) ∙ sym c.is_placed.ensures ∙ c.if-not-is_placed.false)
