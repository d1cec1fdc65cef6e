use Rattle.fits_card.proofs.ReadBack.{doubled-read}
use Rattle.fits_card.proofs.laws.doubled_quotes_are_read.Goals as goal

pub returns : goal.returns
returns c = doubled-read
