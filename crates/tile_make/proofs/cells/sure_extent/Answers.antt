use Rattle.std.proofs.Common.{◌∙◌, ap, sym, Option}
use Rattle.std.specs.Prelude.{ℤ}
use Rattle.tile_make.specs.TileOf.{sure_extent_of}
use Rattle.tile_make.proofs.Exactly.{sure_with_number}
use Rattle.tile_make.proofs.cells.sure_extent.Goals as goal

pub returns-in-Some-clause-exact : goal.returns-in-Some-clause-exact
returns-in-Some-clause-exact c =
    let flat = c.args.order.now.flat in
    let mesh = c.args.order.now.mesh in
    let place = c.args.place.now in
    let image = c.args.image.now in
    sure_with_number c.in-Some.field-0 flat mesh place image c.clear_part.result c.clear_part.ensures
    ∙ ap (λ (o : Option ℤ). sure_extent_of o flat mesh place image) (sym c.in-Some.is)
