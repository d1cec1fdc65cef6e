use Rattle.std.proofs.Common.{refl}
use Rattle.fits_hdu.specs.declared.fault.HduFault.TheVariants.{NotFits, NoSuchHdu}
use Rattle.fits_hdu.proofs.Stages.{first_lost, first_other, first_not, first_cut, first_bad, first_read, later_hdu, not_primary}
use Rattle.fits_hdu.proofs.header.read_first.Goals as goal

pub returns-in-Err-clause-told : goal.returns-in-Err-clause-told
returns-in-Err-clause-told g c = λ bytes start takes. first_lost bytes _ start _ _ _ takes c.fill.auto.buf (c.in-Err.ensures.lost _ takes.rest)

pub returns-then-hdu-eq0-clause-told : goal.returns-then-hdu-eq0-clause-told
returns-then-hdu-eq0-clause-told g c = λ bytes start takes.
    first_other bytes _ start _ _ _ _ _ NotFits takes c.fill.auto.buf (c.in-Ok.ensures.moved _ takes.rest) c.is_beginning.ensures c.if-not-is_beginning.true
    (rw c.if-hdu-eq0.true refl)

pub returns-else-hdu-eq0-clause-told : goal.returns-else-hdu-eq0-clause-told
returns-else-hdu-eq0-clause-told g c = λ bytes start takes.
    first_other bytes _ start _ _ _ _ _ NoSuchHdu takes c.fill.auto.buf (c.in-Ok.ensures.moved _ takes.rest) c.is_beginning.ensures c.if-not-is_beginning.true
    (later_hdu _ c.if-hdu-eq0.false)

pub returns-else-hdu-eq0-clause-cause : goal.returns-else-hdu-eq0-clause-cause
returns-else-hdu-eq0-clause-cause g c = (
  not_primary _ c.if-hdu-eq0.false,
  first_not _ _ _ _ _ _ _ c.fill.auto.buf c.in-Ok.ensures.moved c.in-Ok.ensures.short c.is_beginning.ensures
      c.if-not-is_beginning.true,
)

pub returns-then-count-lt80-clause-told : goal.returns-then-count-lt80-clause-told
returns-then-count-lt80-clause-told g c = λ bytes start takes.
    first_cut bytes _ start _ _ _ _ _ takes c.fill.auto.buf (c.in-Ok.ensures.moved _ takes.rest) c.is_beginning.ensures c.if-not-is_beginning.false
    c.if-count-lt80.true

pub returns-then-not-is_first-clause-told : goal.returns-then-not-is_first-clause-told
returns-then-not-is_first-clause-told g c = λ bytes start takes.
    first_bad bytes _ start _ _ _ _ _ _ takes c.fill.auto.buf (c.in-Ok.ensures.moved _ takes.rest) c.is_beginning.ensures c.if-not-is_beginning.false
    c.if-count-lt80.false c.is_first.ensures c.if-not-is_first.true

pub returns-clause-told : goal.returns-clause-told
returns-clause-told g c = λ bytes start takes.
    first_read bytes _ start _ _ _ _ _ _ _ takes c.fill.auto.buf (c.in-Ok.ensures.moved _ takes.rest) c.is_beginning.ensures c.if-not-is_beginning.false
    c.if-count-lt80.false c.is_first.ensures c.if-not-is_first.false c.is_image.ensures
