use Rattle.fits_hdu.proofs.Searching.{found_from_start, stopped_from_start, missing_from_start, cause_of}
use Rattle.fits_hdu.proofs.finding.find_hdu.Goals as goal

pub returns-in-Ok-clause-told : goal.returns-in-Ok-clause-told
returns-in-Ok-clause-told g c = λ bytes is. found_from_start bytes _ _ _ _ _ _ is c.in-Ok.ensures.told c.find_on.ensures.told

pub returns-in-Err-clause-told : goal.returns-in-Err-clause-told
returns-in-Err-clause-told g c = λ bytes is. stopped_from_start bytes _ _ _ _ is c.in-Err.ensures.told

pub returns-in-Ok-clause-missing : goal.returns-in-Ok-clause-missing
returns-in-Ok-clause-missing g c = λ fault bytes is. missing_from_start bytes _ _ _ _ _ is c.in-Ok.ensures.told (cause_of _ _ _ c.find_on.ensures.cause fault)
