use Rattle.std.proofs.Common.{sym, ◌∙◌}
use Rattle.pixel_plane.specs.Images.{checked}
use Rattle.pixel_plane.proofs.TwoHdus.{shape_is_same}
use Rattle.pixel_plane.proofs.two_images.read_beside.Goals as goal

pub returns-in-Ok-clause-same_shape : goal.returns-in-Ok-clause-same_shape
returns-in-Ok-clause-same_shape g c =
    sym c.shape.ensures.same
    ∙ shape_is_same c.shape.result c.in-Ok.second.shape (checked c.args.limits.now c.args.hdu.now) (sym c.has_other_shape.ensures ∙ c.if-has_other_shape.false)
    c.in-Ok.ensures.shape
