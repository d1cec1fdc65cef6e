use Rattle.std.proofs.Common.{◌∙◌, sym, ap, min}
use Rattle.std.proofs.lemmas.List.{take_rest}
use Rattle.fits_card.specs.Values.{is_numeral, unsigned}
use Rattle.fits_card.proofs.Digits.{digits-from_numeral}
use Rattle.fits_card.proofs.Exponents.{exponent-none, exponent-bad, exponent-clamped}
use Rattle.fits_card.proofs.number.exponent.Goals as goal

pub magnitude-requires : goal.magnitude-requires
magnitude-requires c = digits-from_numeral c.split_sign-negative.result.1.now (sym c.is_numeral.ensures ∙ c.if-not-is_numeral.false)

pub returns-in_default-clause-value : goal.returns-in_default-clause-value
returns-in_default-clause-value c = exponent-none c.args.bytes.now c.in_default.len_below

pub returns-then-not-is_numeral-clause-value : goal.returns-then-not-is_numeral-clause-value
returns-then-not-is_numeral-clause-value c =
    exponent-bad c.args.bytes.now c.in-len1-up.len_at_least
    (ap (λ xs. is_numeral (unsigned xs)) (sym (take_rest c.args.bytes.now 1)) ∙ ap is_numeral (sym c.split_sign-negative.ensures.rest)
    ∙ sym c.is_numeral.ensures ∙ c.if-not-is_numeral.true)

pub returns-clause-value : goal.returns-clause-value
returns-clause-value c =
    exponent-clamped c.args.bytes.now _ c.split_sign-negative.result.1.now c.split_sign-negative.result.0 c.magnitude.result c.min.result c.signed.result
    c.in-len1-up.len_at_least (take_rest c.args.bytes.now 1) c.split_sign-negative.ensures.rest c.split_sign-negative.ensures.negative
    (sym c.is_numeral.ensures ∙ c.if-not-is_numeral.false) c.magnitude.ensures
    (c.min.ensures ∙ ap (λ n. min n 1000) c.unwrap_or.ensures) c.signed.ensures
