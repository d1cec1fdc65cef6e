use Rattle.fits_write.specs.Hdus.{map_hdu}
use Rattle.fits_write.proofs.Pieces.{header_cut, header_and_data}
use Rattle.fits_write.proofs.map.put_header_and_numbers.Goals as goal

pub returns-in-Err-clause-bytes : goal.returns-in-Err-clause-bytes
unfolding map_hdu
returns-in-Err-clause-bytes g c = header_cut _ _ _ _ _ c.map_cards.ensures c.in-Err.ensures.bytes

pub returns-clause-bytes : goal.returns-clause-bytes
unfolding map_hdu
returns-clause-bytes g c = header_and_data _ _ _ _ _ _ _ c.map_cards.ensures c.in_default.ensures.bytes c.put_numbers.ensures.bytes
