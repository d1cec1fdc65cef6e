use Rattle.pixel_plane.proofs.Readable.{checked_from}
use Rattle.pixel_plane.proofs.check.check_within.Goals as goal

pub returns : goal.returns
returns c = checked_from c.args.limits.now c.args.hdu.now c.image_shape.result c.image_shape.ensures.fault c.image_shape.ensures.sides
