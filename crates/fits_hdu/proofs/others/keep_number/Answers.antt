use Rattle.std.proofs.Common.{Some, ap, sym, ◌∙◌}
use Rattle.std.specs.Prelude.{unwrap_or}
use Rattle.fits_hdu.specs.Headers.{natural_or_zero}
use Rattle.fits_hdu.proofs.Keeping.{keep_new, keep_old, keep_same}
use Rattle.fits_hdu.proofs.others.keep_number.Goals.{else-is_none-via-then-is_none+else-is_valued, else-is_none-via-else-is_none}
use Rattle.fits_hdu.proofs.others.keep_number.Goals as goal

pub returns-then-is_valued : goal.returns-then-is_valued
returns-then-is_valued c =
    λ cards is. ap Some (c.unwrap_or.ensures ∙ ap (λ o. unwrap_or o 0) c.natural.ensures)
    ∙ keep_new natural_or_zero _ cards _ _ is c.if-is_none.ensures (sym c.if-is_valued.ensures)

pub returns-else-is_none : goal.returns-else-is_none
returns-else-is_none c = λ cards is. elim c.else-is_none.branch [
  | else-is_none-via-then-is_none+else-is_valued w ↦ keep_same natural_or_zero c.args.keyword.now cards c.args.card.now c.args.kept is
      (sym w.if-is_valued.ensures)
  | else-is_none-via-else-is_none w ↦ keep_old natural_or_zero c.args.keyword.now cards c.args.card.now c.args.kept is w.if-is_none.ensures
]
