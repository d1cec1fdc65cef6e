use Rattle.std.proofs.Common.{[], ◌<◌, ◌≤◌, None, length, rules}
use Rattle.fits_write.specs.Hdus.{pixel_bytes, pixels_bytes}
use Rattle.fits_write.proofs.Pieces.{waits_more, waits_cut, waits_all, waits_filled, cut_filled, piece_in, piece_is, pieces_over}
use Rattle.fits_write.proofs.plane.put_pixels.Goals as goal

pub returns-in-Err-clause-bytes : goal.returns-in-Err-clause-bytes
unfolding pixels_bytes
returns-in-Err-clause-bytes g c =
    let values = c.args.plane.now.values in
    let inside : c.loop-p.p < length values = search rules in
    cut_filled _ _ _ 0
    (waits_cut _ _ _ [] _ _ c.loop-p.p _ (piece_in pixel_bytes values _ inside)
    (piece_is pixel_bytes values _ _ None _ inside c.pixel_bytes.ensures c.get.ensures.value)
    c.loop-p.invariant.waiting c.in-Err.ensures.err)

pub loop-p-preserved : goal.loop-p-preserved
loop-p-preserved g c =
    let values = c.args.plane.now.values in
    let inside : c.loop-p.p < length values = search rules in
    record {
      waiting =
          waits_more _ _ _ [] _ _ _ c.loop-p.p _ (piece_in pixel_bytes values _ inside)
          (piece_is pixel_bytes values _ _ None _ inside c.pixel_bytes.ensures c.get.ensures.value)
          c.loop-p.invariant.waiting c.in_default.ensures.ok;
      later = search rules;
    }

pub returns-clause-bytes : goal.returns-clause-bytes
unfolding pixels_bytes
returns-clause-bytes g c =
    let values = c.args.plane.now.values in
    let over : length values ≤ c.loop-p.p = search rules in
    waits_filled _ _ _ _ _ _ 0 (waits_all _ _ [] _ _ c.loop-p.p (pieces_over pixel_bytes values _ over) c.loop-p.invariant.waiting) c.fill.ensures.bytes
