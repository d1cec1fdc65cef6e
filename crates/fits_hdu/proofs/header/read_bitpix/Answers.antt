use Rattle.std.proofs.Common.{lit<, w32, SFits, rules}
use Rattle.std.proofs.lemmas.Int.{to_z-of_z}
use Rattle.fits_hdu.proofs.Reaching.{stop_missing}
use Rattle.fits_hdu.proofs.Stages.{bitpix_bad, bitpix_read}
use Rattle.fits_hdu.proofs.header.read_bitpix.Goals as goal

pub returns-in-Err-clause-told : goal.returns-in-Err-clause-told
returns-in-Err-clause-told g c = λ bytes start reached. stop_missing bytes _ start 1 _ _ _ reached (lit< tt) (c.in-Err.ensures.told bytes _ reached.takes)

pub returns-in-Some-clause-told : goal.returns-in-Some-clause-told
returns-in-Some-clause-told g c = λ bytes start reached.
    let fits : SFits w32 c.in-Some.bitpix = search rules in
    rw (to_z-of_z w32 c.in-Some.bitpix fits) (bitpix_read bytes _ start _ _ _ _ _ reached (c.in-Ok.ensures.told bytes _ reached.takes) c.bitpix.ensures
    c.in-Some.is)

pub returns-in-None-clause-told : goal.returns-in-None-clause-told
returns-in-None-clause-told g c =
    λ bytes start reached. bitpix_bad bytes _ start _ _ _ _ reached (c.in-Ok.ensures.told bytes _ reached.takes) c.bitpix.ensures c.in-None.is
