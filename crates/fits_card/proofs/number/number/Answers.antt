use Rattle.std.proofs.Common.{◌∙◌, sym, ap}
use Rattle.fits_card.specs.Values.{number_of, whole_of}
use Rattle.fits_card.proofs.Reals.{number-integer, number-real}
use Rattle.fits_card.proofs.number.number.Goals as goal

pub returns-then-is_numeral : goal.returns-then-is_numeral
returns-then-is_numeral c =
    c.fitted.ensures (number_of c.args.bytes.now) c.magnitude.ensures
    ∙ sym (ap whole_of (number-integer c.args.negative c.args.bytes.now (sym c.is_numeral.ensures ∙ c.if-is_numeral.true)))

pub returns-else-is_numeral : goal.returns-else-is_numeral
returns-else-is_numeral c =
    c.real.ensures ∙ sym (ap whole_of (number-real c.args.negative c.args.bytes.now (sym c.is_numeral.ensures ∙ c.if-is_numeral.false)))
