use Rattle.tile_file.proofs.Extents.{no_window, no_core, tile_found}
use Rattle.tile_file.proofs.frames.tile_boxes.Goals as goal

pub returns-in_default-split_frame-clause-none : goal.returns-in_default-split_frame-clause-none
returns-in_default-split_frame-clause-none c = λ whole window core boxes are is.
    no_window c.args.cells.now c.in-Some.image.rest.now c.in-Some.image.whole c.in-Some.ensures.some c.in_default-split_frame.ensures.none whole window core
    boxes are is

pub returns-in_default-split_frame-2-clause-none : goal.returns-in_default-split_frame-2-clause-none
returns-in_default-split_frame-2-clause-none c = λ whole window core boxes are is.
    no_core c.args.cells.now c.in-Some.image.rest.now c.in-Some-split_frame.window.rest.now c.in-Some.image.whole c.in-Some-split_frame.window.frame
    c.in-Some.ensures.some
    c.in-Some-split_frame.ensures.some.0 c.in_default-split_frame-2.ensures.none whole window core boxes are is

pub returns-clause-some : goal.returns-clause-some
returns-clause-some c =
    let boxes = rw c.in-Some-2.is at c.in_ok-open.ensures.some in
    tile_found c.args.cells.now c.in-Some.image.rest.now c.in-Some-split_frame.window.rest.now c.in-Some-split_frame-2.core.rest.now c.in-Some.image.whole
    c.in-Some-split_frame.window.frame c.in-Some-split_frame-2.core.frame c.in-Some-2.open.items c.requires c.in-Some.ensures.some
    c.in-Some-split_frame.ensures.some
    c.in-Some-split_frame-2.ensures.some boxes
