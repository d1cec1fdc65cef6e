use Rattle.std.proofs.Common.{◌≡◌, ◌≢◌, ◌∙◌, sym, ◌<◌, length, arith, false, get_or}
use Rattle.std.specs.Char.{is_ascii_digit}
use Rattle.std.proofs.lemmas.Bool.{eqb-false}
use Rattle.fits_card.proofs.Digits.{numeral-is, some-no_digit, all_digits-by_index}
use Rattle.fits_card.proofs.number.is_numeral.Goals as goal

pub returns-then-not-is_ascii_digit : goal.returns-then-not-is_ascii_digit
returns-then-not-is_ascii_digit c =
    let no_digit : is_ascii_digit (get_or c.args.bytes.now c.loop-b.b-index 0) ≡ false = sym c.is_ascii_digit.ensures.value ∙ c.if-not-is_ascii_digit.true in
    let some : 0 < length c.args.bytes.now = omega arith in
    sym (numeral-is c.args.bytes.now some ∙ some-no_digit c.args.bytes.now c.loop-b.b-index c.loop-b-test.true no_digit)

pub returns : goal.returns
returns c =
    let not_none : length c.args.bytes.now ≢ 0 = eqb-false (length c.args.bytes.now) 0 (sym c.is_empty.ensures ∙ c.if-is_empty.false) in
    let some : 0 < length c.args.bytes.now = omega arith in
    sym (numeral-is c.args.bytes.now some ∙ all_digits-by_index c.args.bytes.now (λ k h. c.loop-b.invariant k (omega arith)))
