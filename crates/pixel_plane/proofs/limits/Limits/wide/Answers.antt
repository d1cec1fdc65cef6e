use Rattle.std.proofs.Common.{◌^◌, pos, neg_ℤ}
use Rattle.pixel_plane.specs.ImageLimits.{wide_limits}
use Rattle.pixel_plane.proofs.OneLimits.{same_limits}
use Rattle.pixel_plane.proofs.limits.Limits.wide.Goals as goal

pub returns : goal.returns
unfolding wide_limits
returns c = same_limits 2147483647 (neg_ℤ (pos (2 ^ 36))) (pos (2 ^ 36)) _ _
