use Rattle.dev_io.proofs.Exported.{skipped_all, skipped_cut}
use Rattle.fits_hdu.proofs.Heads.{next_cut, next_lost, next_found}
use Rattle.fits_hdu.proofs.finding.find_next.Goals as goal

pub returns-in-Ok-true-clause-told : goal.returns-in-Ok-true-clause-told
returns-in-Ok-true-clause-told g c = λ bytes head takes.
    next_found bytes _ _ head _ _ _ (skipped_all bytes _ _ _ _ c.in-Ok-true.field-0-test (c.in-Ok-true.ensures.told bytes head takes))
    c.read_past_padding.ensures.told

pub returns-in-Ok-false-clause-told : goal.returns-in-Ok-false-clause-told
returns-in-Ok-false-clause-told g c =
    λ bytes head takes. next_cut bytes _ _ head _ (skipped_cut bytes _ _ _ _ c.in-Ok-false.field-0-test (c.in-Ok-false.ensures.told bytes head takes))

pub returns-in-Err-clause-told : goal.returns-in-Err-clause-told
returns-in-Err-clause-told g c = λ bytes head takes. next_lost bytes _ _ head _ (c.in-Err.ensures.told bytes head takes)
