use Rattle.std.proofs.Common.{rules}
use Rattle.pixel_plane.proofs.Readable.{size_fits, zero_is_near}
use Rattle.pixel_plane.proofs.encoding.Encoding.of.Goals as goal

pub invariant_of-result : goal.invariant_of-result
invariant_of-result c =
    let size = size_fits c.args.limits.now c.args.hdu.now c.requires in
    let zero = zero_is_near c.args.limits.now c.args.hdu.now c.requires in
    let low = zero.low in
    let high = zero.high in
    search rules
