use Rattle.dev_io.proofs.Exported.{skipped_all, skipped_cut}
use Rattle.fits_hdu.proofs.Heads.{pad_lost, pad_none, pad_found}
use Rattle.fits_hdu.proofs.finding.read_past_padding.Goals as goal

pub returns-in-Ok-true-clause-told : goal.returns-in-Ok-true-clause-told
returns-in-Ok-true-clause-told g c = λ bytes start takes.
    pad_found bytes _ _ start _ _ _ (skipped_all bytes _ _ _ _ c.in-Ok-true.field-0-test (c.in-Ok-true.ensures.told bytes start takes))
    c.read_header.ensures.told

pub returns-in-Ok-false-clause-told : goal.returns-in-Ok-false-clause-told
returns-in-Ok-false-clause-told g c =
    λ bytes start takes. pad_none bytes _ _ start _ (skipped_cut bytes _ _ _ _ c.in-Ok-false.field-0-test (c.in-Ok-false.ensures.told bytes start takes))

pub returns-in-Err-clause-told : goal.returns-in-Err-clause-told
returns-in-Err-clause-told g c = λ bytes start takes. pad_lost bytes _ _ start _ (c.in-Err.ensures.told bytes start takes)
