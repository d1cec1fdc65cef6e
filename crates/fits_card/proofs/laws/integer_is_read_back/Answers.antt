use Rattle.fits_card.proofs.ReadBack.{integer-read_back, integer-whole}
use Rattle.fits_card.proofs.laws.integer_is_read_back.Goals as goal

pub returns-clause-integer : goal.returns-clause-integer
returns-clause-integer c = integer-read_back

pub returns-clause-whole : goal.returns-clause-whole
returns-clause-whole c = integer-whole
