use Rattle.fits_hdu.proofs.Keeping.{no_axes}
use Rattle.fits_hdu.proofs.axes.Axes.none.Goals as goal

pub returns : goal.returns
returns c = no_axes
