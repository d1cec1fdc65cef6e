use Rattle.std.proofs.Common.{refl}
use Rattle.fits_back.proofs.Stripping.{fill_stripped}
use Rattle.fits_back.proofs.front.strip_fill.Goals as goal

pub returns : goal.returns
returns c = fill_stripped _ c.args.len c.args.byte c.args.bytes.now _ refl c.strip.ensures
