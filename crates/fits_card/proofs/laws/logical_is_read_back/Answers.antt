use Rattle.fits_card.proofs.ReadBack.{logical-read_back}
use Rattle.fits_card.proofs.laws.logical_is_read_back.Goals as goal

pub returns : goal.returns
returns c = logical-read_back
