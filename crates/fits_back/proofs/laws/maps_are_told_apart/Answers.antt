use Rattle.fits_back.proofs.Numbers.{maps_told}
use Rattle.fits_back.proofs.laws.maps_are_told_apart.Goals as goal

pub returns : goal.returns
returns c = maps_told
