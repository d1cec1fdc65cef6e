use Rattle.std.proofs.Common.{◌∙◌}
use Rattle.pixel_plane.proofs.Nearness.{limits_read}
use Rattle.pixel_plane.proofs.encoding.Encoding.limits_most.Goals as goal

pub returns : goal.returns
returns c = c.unsigned_abs.ensures.value ∙ limits_read c.args.self.now.limits c.max.result c.max-farthest.result c.max.ensures.value c.max-farthest.ensures.value
