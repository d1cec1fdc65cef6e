use Rattle.std.proofs.Common.{◌∙◌, sym}
use Rattle.fits_card.proofs.ValueKinds.{integer-read, integer-too_large, integer-none}
use Rattle.fits_card.proofs.read.integer_token.Goals as goal

pub returns-then-not-is_numeral : goal.returns-then-not-is_numeral
returns-then-not-is_numeral c =
    integer-none c.args.token.now c.split_sign-negative.result.1.now c.split_sign-negative.ensures.rest (sym c.is_numeral.ensures ∙ c.if-not-is_numeral.true)

pub returns-in_default : goal.returns-in_default
returns-in_default c =
    integer-too_large c.args.token.now c.split_sign-negative.result.1.now c.split_sign-negative.result.0 c.split_sign-negative.ensures.negative
    c.split_sign-negative.ensures.rest
    (sym c.is_numeral.ensures ∙ c.if-not-is_numeral.false) c.in_default.ensures

pub returns : goal.returns
returns c =
    integer-read c.args.token.now c.split_sign-negative.result.1.now c.split_sign-negative.result.0 c.in-Some.magnitude c.signed.result
    c.split_sign-negative.ensures.negative c.split_sign-negative.ensures.rest
    (sym c.is_numeral.ensures ∙ c.if-not-is_numeral.false) c.in-Some.ensures.1 c.signed.ensures
