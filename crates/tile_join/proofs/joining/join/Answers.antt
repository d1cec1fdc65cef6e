use Rattle.std.proofs.lemmas.Result.{IfOk-at_ok}
use Rattle.tile_join.proofs.Images.{image_from}
use Rattle.tile_join.proofs.joining.join.Goals as goal

pub returns-in-Ok-Ok-clause-image : goal.returns-in-Ok-Ok-clause-image
returns-in-Ok-Ok-clause-image c =
    image_from c.joined_tiles_are_the_whole.ensures c.args.whole c.args.tiles.now c.in-Ok-Ok.joined.rows.items c.in-Ok-Ok.joined.map.items
    (IfOk-at_ok _ c.in-Ok-Ok.field-0-is c.in-Ok-Ok.ensures.rows) (IfOk-at_ok _ c.in-Ok-Ok.field-0-is c.in-Ok-Ok.ensures.map) (IfOk-at_ok _ c.in-Ok-Ok.field-0-is c.in-Ok-Ok.ensures.joinable)
