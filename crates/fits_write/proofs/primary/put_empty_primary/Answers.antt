use Rattle.fits_write.specs.Hdus.{empty_primary}
use Rattle.fits_write.proofs.Pieces.{header_put, header_front}
use Rattle.fits_write.proofs.primary.put_empty_primary.Goals as goal

pub returns-in-Ok-clause-bytes : goal.returns-in-Ok-clause-bytes
unfolding empty_primary
returns-in-Ok-clause-bytes g c = header_put _ _ _ _ c.primary_cards.ensures c.in-Ok.ensures.bytes

pub returns-in-Err-clause-bytes : goal.returns-in-Err-clause-bytes
unfolding empty_primary
returns-in-Err-clause-bytes g c = header_front _ _ _ _ c.primary_cards.ensures c.in-Err.ensures.bytes
