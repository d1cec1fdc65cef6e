use Rattle.std.proofs.Common.{◌^◌, pos, neg_ℤ}
use Rattle.pixel_plane.specs.ImageLimits.{usual_limits}
use Rattle.pixel_plane.proofs.OneLimits.{same_limits}
use Rattle.pixel_plane.proofs.limits.Limits.usual.Goals as goal

pub returns : goal.returns
unfolding usual_limits
returns c = same_limits (2 ^ 24) (neg_ℤ (pos (2 ^ 36))) (pos (2 ^ 36)) _ _
