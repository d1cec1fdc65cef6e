use Rattle.fits_back.proofs.Stripping.{stripped}
use Rattle.fits_back.proofs.front.strip.Goals as goal

pub returns : goal.returns
returns c = stripped c.args.bytes.now c.args.front.now _ c.strip_prefix.ensures.cases
