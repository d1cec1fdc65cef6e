use Rattle.std.proofs.Common.{lit<, sym, ◌∙◌}
use Rattle.fits_hdu.proofs.Reaching.{stop_missing}
use Rattle.fits_hdu.proofs.Stages.{naxis_bad, naxis_read, naxis_few}
use Rattle.fits_hdu.proofs.header.read_naxis.Goals as goal

pub returns-in-Err-clause-told : goal.returns-in-Err-clause-told
returns-in-Err-clause-told g c = λ bytes start reached. stop_missing bytes _ start 2 _ _ _ reached (lit< tt) (c.in-Err.ensures.told bytes _ reached.takes)

pub returns-in-Some-clause-told : goal.returns-in-Some-clause-told
returns-in-Some-clause-told g c =
    λ bytes start reached. naxis_read bytes _ start _ _ _ _ _ reached (c.in-Ok.ensures.told bytes _ reached.takes) c.naxis.ensures c.in-Some.is

pub returns-in-Some-clause-few : goal.returns-in-Some-clause-few
returns-in-Some-clause-few g c = naxis_few _ _ (sym c.naxis.ensures ∙ c.in-Some.is)

pub returns-in-None-clause-told : goal.returns-in-None-clause-told
returns-in-None-clause-told g c =
    λ bytes start reached. naxis_bad bytes _ start _ _ _ _ reached (c.in-Ok.ensures.told bytes _ reached.takes) c.naxis.ensures c.in-None.is
