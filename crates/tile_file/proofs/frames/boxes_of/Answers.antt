use Rattle.std.proofs.Common.{◌∙◌, sym}
use Rattle.tile_file.proofs.InTurn.{more_left}
use Rattle.tile_file.proofs.Extents.{no_boxes}
use Rattle.tile_file.proofs.frames.boxes_of.Goals as goal

pub returns-in_default-clause-none : goal.returns-in_default-clause-none
returns-in_default-clause-none c = λ boxes all is.
    no_boxes c.loop-rest.boxes.items boxes c.loop-rest.rest.now c.loop-rest.invariant.ends all (more_left c.loop-rest.rest.now c.loop-rest-test.ensures)
    c.in_default.ensures.none
    (sym c.loop-rest.invariant.written ∙ is)
