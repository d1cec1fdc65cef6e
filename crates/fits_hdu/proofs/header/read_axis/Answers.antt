use Rattle.std.proofs.Common.{arith}
use Rattle.fits_hdu.proofs.Reaching.{stop_missing}
use Rattle.fits_hdu.proofs.Stages.{axis_bad, axis_read}
use Rattle.fits_hdu.proofs.header.read_axis.Goals as goal

pub returns-in-Err-clause-told : goal.returns-in-Err-clause-told
returns-in-Err-clause-told g c =
    λ bytes start reached within. stop_missing bytes _ start _ _ _ _ reached (omega (arith, c.requires.last)) (c.in-Err.ensures.told bytes _ reached.takes)

pub returns-in-Some-clause-told : goal.returns-in-Some-clause-told
returns-in-Some-clause-told g c = λ bytes start reached within.
    axis_read bytes _ start _ _ _ _ _ _ c.requires.first c.requires.last reached within (c.in-Ok.ensures.told bytes _ reached.takes) c.axis.ensures c.in-Some.is

pub returns-in-None-clause-told : goal.returns-in-None-clause-told
returns-in-None-clause-told g c = λ bytes start reached within.
    rw c.from.ensures (axis_bad bytes _ start _ _ _ _ _ c.requires.first c.requires.last reached within (c.in-Ok.ensures.told bytes _ reached.takes)
    c.axis.ensures c.in-None.is)
