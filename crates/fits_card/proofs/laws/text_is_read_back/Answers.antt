use Rattle.fits_card.proofs.ReadBack.{text-read_back}
use Rattle.fits_card.proofs.laws.text_is_read_back.Goals as goal

pub returns : goal.returns
returns c = text-read_back
