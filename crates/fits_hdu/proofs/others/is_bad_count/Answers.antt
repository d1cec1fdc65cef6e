use Rattle.std.proofs.Common.{true, ap, sym, ◌∙◌}
use Rattle.std.proofs.Common.{is_some}
use Rattle.fits_hdu.proofs.Keeping.{bad_count, good_unvalued, good_kept}
use Rattle.fits_hdu.proofs.others.is_bad_count.Goals as goal

pub returns-then-is_none : goal.returns-then-is_none
returns-then-is_none c = λ cards is.
    sym (bad_count _ cards _ _ true true _ is (sym c.if-is_valued.ensures) c.if-is_none.ensures
    (ap is_some (sym c.natural.ensures) ∙ c.is_none-then-is_none.ensures))

pub returns-else-is_none : goal.returns-else-is_none
returns-else-is_none c = λ cards is. c.if-is_none.false ∙ sym (good_kept _ cards _ _ is (sym c.if-is_valued.ensures) c.if-is_none.ensures)

pub returns-else-is_valued : goal.returns-else-is_valued
returns-else-is_valued c = λ cards is. c.if-is_valued.false ∙ sym (good_unvalued _ cards _ (sym c.if-is_valued.ensures))
