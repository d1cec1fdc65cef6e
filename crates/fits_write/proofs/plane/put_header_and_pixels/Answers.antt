use Rattle.std.proofs.Common.{◌∙◌, ap}
use Rattle.fits_write.specs.Hdus.{plane_hdu, plane_cards}
use Rattle.fits_write.proofs.Pieces.{header_cut, header_and_data}
use Rattle.fits_write.proofs.plane.put_header_and_pixels.Goals as goal

pub returns-in-Err-clause-bytes : goal.returns-in-Err-clause-bytes
unfolding plane_hdu
returns-in-Err-clause-bytes g c = header_cut _ _ _ _ _ (c.plane_cards.ensures ∙ ap plane_cards c.shape.ensures.same) c.in-Err.ensures.bytes

pub returns-clause-bytes : goal.returns-clause-bytes
unfolding plane_hdu
returns-clause-bytes g c =
    header_and_data _ _ _ _ _ _ _ (c.plane_cards.ensures ∙ ap plane_cards c.shape.ensures.same) c.in_default.ensures.bytes c.put_pixels.ensures.bytes
