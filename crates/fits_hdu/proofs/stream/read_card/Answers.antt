use Rattle.fits_hdu.proofs.Filled.{card_read, card_cut, card_lost}
use Rattle.fits_hdu.proofs.stream.read_card.Goals as goal

pub returns-in-Ok-eq80-clause-told : goal.returns-in-Ok-eq80-clause-told
returns-in-Ok-eq80-clause-told g c =
    λ bytes at takes. card_read bytes at _ _ _ _ takes c.fill.auto.buf (c.in-Ok-eq80.ensures.moved _ takes.rest) c.in-Ok-eq80.field-0-test

pub returns-in-Ok-clause-told : goal.returns-in-Ok-clause-told
returns-in-Ok-clause-told g c = λ bytes at takes. card_cut bytes at _ _ _ _ takes c.fill.auto.buf (c.in-Ok.ensures.moved _ takes.rest) c.in-Ok.field-0-test.1

pub returns-in-Err-clause-told : goal.returns-in-Err-clause-told
returns-in-Err-clause-told g c = λ bytes at takes. card_lost bytes at _ _ _ takes c.fill.auto.buf (c.in-Err.ensures.lost _ takes.rest)
