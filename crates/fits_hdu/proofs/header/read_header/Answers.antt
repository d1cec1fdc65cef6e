use Rattle.dev_io.proofs.Exported.{skipped_all, skipped_cut}
use Rattle.fits_hdu.proofs.Heads.{header_found, header_cut, header_lost, judged_caused}
use Rattle.fits_hdu.proofs.header.read_header.Goals as goal

pub returns-in-Ok-true-clause-told : goal.returns-in-Ok-true-clause-told
returns-in-Ok-true-clause-told g c = λ bytes start takes.
    let first = c.in-Ok.ensures.told bytes start takes in
    let last = c.in-Ok-read_others.ensures.told bytes start first.reached first.naxis_is in
    header_found bytes _ start _ _ _ c.in-Ok.cards c.in-Ok-read_others.ended _ _ c.from.ensures first last
    (skipped_all bytes _ _ _ _ c.in-Ok-true.field-0-test (c.in-Ok-true.ensures.told bytes _ last.takes)) c.judge.ensures.told

pub returns-in-Ok-true-clause-cause : goal.returns-in-Ok-true-clause-cause
returns-in-Ok-true-clause-cause g c = judged_caused _ _ _ _ c.judge.result c.judge.ensures.fault

pub returns-in-Ok-false-clause-told : goal.returns-in-Ok-false-clause-told
returns-in-Ok-false-clause-told g c = λ bytes start takes.
    let first = c.in-Ok.ensures.told bytes start takes in
    let last = c.in-Ok-read_others.ensures.told bytes start first.reached first.naxis_is in
    header_cut bytes _ start _ _ c.in-Ok-read_others.ended _ c.from.ensures last
    (skipped_cut bytes _ _ _ _ c.in-Ok-false.field-0-test (c.in-Ok-false.ensures.told bytes _ last.takes))

pub returns-in-Err-skip-clause-told : goal.returns-in-Err-skip-clause-told
returns-in-Err-skip-clause-told g c = λ bytes start takes.
    let first = c.in-Ok.ensures.told bytes start takes in
    let last = c.in-Ok-read_others.ensures.told bytes start first.reached first.naxis_is in
    header_lost bytes _ start _ _ c.in-Ok-read_others.ended _ c.from.ensures last (c.in-Err-skip.ensures.told bytes _ last.takes)
