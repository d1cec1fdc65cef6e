use Rattle.std.proofs.Common.{◌∙◌, sym}
use Rattle.tile_file.specs.TileFiles.{frame_extent}
use Rattle.tile_file.proofs.Extents.{same_box, frame_ends}
use Rattle.tile_file.proofs.frames.split_frame.Goals as goal

pub returns-in_default-clause-none : goal.returns-in_default-clause-none
returns-in_default-clause-none c = λ frame rest inside is. c.in_default.ensures.none (frame_extent frame) rest (frame_ends c.args.whole frame inside) is

pub returns-in-None-clause-none : goal.returns-in-None-clause-none
returns-in-None-clause-none c = λ frame rest inside is.
    c.in-None.ensures.none frame inside
    (same_box c.in-Some.ahead.found (frame_extent frame) c.in-Some.ahead.rest.now rest (sym c.in-Some.ensures.some.0 ∙ is)).0
