use Rattle.std.proofs.Common.{refl, arith}
use Rattle.fits_hdu.proofs.Searching.{found_after, stopped_after, missing_after, missing_at_padding, cause_of}
use Rattle.fits_hdu.proofs.finding.find_after.Goals as goal

pub returns-in-Ok-clause-told : goal.returns-in-Ok-clause-told
returns-in-Ok-clause-told g c = λ bytes start takes. found_after bytes _ _ _ start _ _ _ _ _ _ refl takes c.in-Ok.ensures.told c.find_on.ensures.told

pub returns-in-Err-clause-told : goal.returns-in-Err-clause-told
returns-in-Err-clause-told g c = λ bytes start takes. stopped_after bytes _ _ _ start _ _ _ _ refl (omega arith) takes c.in-Err.ensures.told

pub returns-in-Ok-clause-missing : goal.returns-in-Ok-clause-missing
returns-in-Ok-clause-missing g c =
    λ fault bytes start takes. missing_after bytes _ _ _ start _ _ _ _ _ refl takes c.in-Ok.ensures.told (cause_of _ _ _ c.find_on.ensures.cause fault)

pub returns-in-Err-clause-missing : goal.returns-in-Err-clause-missing
returns-in-Err-clause-missing g c = λ fault bytes start takes. missing_at_padding bytes _ _ _ start _ _ _ _ _ _ refl takes c.in-Err.ensures.cause fault
