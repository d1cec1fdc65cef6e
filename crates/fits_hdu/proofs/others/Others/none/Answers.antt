use Rattle.fits_hdu.proofs.Keeping.{none_kept}
use Rattle.fits_hdu.proofs.others.Others.none.Goals as goal

pub returns : goal.returns
returns c = none_kept
