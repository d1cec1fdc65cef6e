use Rattle.tile_words.proofs.WideShapes.{shape_is_wide}
use Rattle.tile_words.proofs.places.shape_with.Goals as goal

pub returns : goal.returns
returns c = shape_is_wide c.args.width c.args.height c.wide.result c.wide.ensures.accepted c.wide.ensures.sides
