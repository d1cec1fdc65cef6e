use Rattle.std.proofs.Common.{refl, arith}
use Rattle.fits_hdu.proofs.Heads.{caused_more}
use Rattle.fits_hdu.proofs.Searching.{at_first, at_next, stopped_next, found_last, caused_next}
use Rattle.fits_hdu.proofs.finding.find_on.Goals as goal

pub loop-before-init : goal.loop-before-init
loop-before-init g c = record {
  told = λ bytes head takes. at_first bytes _ _ head _ takes;
  later = omega arith;
}

pub returns-in-Err-clause-told : goal.returns-in-Err-clause-told
returns-in-Err-clause-told g c = λ bytes head takes.
    stopped_next bytes _ _ head _ _ _ _ _ _ _ _ takes (c.loop-before.invariant.told bytes head takes) (omega arith) refl (omega arith) c.in-Err.ensures.told

pub loop-before-preserved : goal.loop-before-preserved
loop-before-preserved g c = record {
  told = λ bytes head takes. at_next bytes _ _ _ _ _ _ _ _ (c.loop-before.invariant.told bytes head takes) (omega arith) refl c.in-Ok.ensures.told;
  later = omega (arith, c.in-Ok.ensures.later);
}

pub returns-clause-told : goal.returns-clause-told
returns-clause-told g c = λ bytes head takes. found_last bytes _ _ _ _ _ _ (omega arith) (c.loop-before.invariant.told bytes head takes)

pub returns-in-Err-clause-cause : goal.returns-in-Err-clause-cause
returns-in-Err-clause-cause g c =
    caused_more _ _ _ _ _ (caused_next _ _ _ _ _ _ _ _ _ c.loop-before.invariant.told (omega arith) refl (omega arith)) (omega arith) c.in-Err.ensures.cause
