use Rattle.std.proofs.Common.{◌∙◌, sym}
use Rattle.tile_file.specs.TileFiles.{image_extent}
use Rattle.tile_file.proofs.Extents.{same_box, image_ends}
use Rattle.tile_file.proofs.frames.split_image.Goals as goal

pub returns-in_default-clause-none : goal.returns-in_default-clause-none
returns-in_default-clause-none c = λ whole rest is. c.in_default.ensures.none (image_extent whole) rest (image_ends whole) is

pub returns-in-None-clause-none : goal.returns-in-None-clause-none
returns-in-None-clause-none c = λ whole rest is.
    c.in-None.ensures.none whole
    (same_box c.in-Some.ahead.found (image_extent whole) c.in-Some.ahead.rest.now rest (sym c.in-Some.ensures.some.0 ∙ is)).0
