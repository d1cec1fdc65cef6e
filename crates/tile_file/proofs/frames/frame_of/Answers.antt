use Rattle.tile_file.proofs.Extents.{not_inside, frame_is}
use Rattle.tile_file.proofs.frames.frame_of.Goals as goal

pub returns-then-columns-whole-clause-none : goal.returns-then-columns-whole-clause-none
returns-then-columns-whole-clause-none c = λ frame inside is. not_inside c.args.found.now c.args.whole frame c.then-columns-whole.either inside is

pub returns-in-Some-clause-some : goal.returns-in-Some-clause-some
returns-in-Some-clause-some c =
    frame_is c.args.found.now c.args.whole c.in-Some.shape c.if-columns.false c.if-rows.false c.if-columns-whole.false c.if-rows-whole.false
    c.in-Some.ensures.sides.0
    c.in-Some.ensures.sides.1
