use Rattle.std.proofs.Common.{◌≡◌, ◌∙◌, sym, ap, length, ◌≤◌, arith, ℕ, ◌-ℤ◌, pos, rules}
use mir.Val.{SFits}
use mir.Syntax.{w64}
use Rattle.std.proofs.lemmas.Int.{to_z-of_z}
use Rattle.fits_card.specs.Values.{is_numeral, number_of, signed, whole_real}
use Rattle.fits_card.proofs.Reals.{Pieces, real-without_exponent, real-without_digits, real-whole}
use Rattle.fits_card.proofs.number.real.Goals as goal

pub returns-in_default : goal.returns-in_default
returns-in_default c =
    let pieces : Pieces c.args.bytes.now c.split_before.result.0.now c.split_before.result.1.now c.split_before-2.result.0.now c.split_before-2.result.1.now
    c.after_first-fraction.result.now =
    record {
      mantissa_is = c.split_before.ensures.front;
      scale_is = c.split_before.ensures.rest;
      whole_is = c.split_before-2.ensures.front;
      rest_is = c.split_before-2.ensures.rest;
      fraction_is = c.after_first-fraction.ensures.rest;
    } in
    real-without_exponent c.args.negative pieces c.in_default.ensures.value

pub returns-then-is_numeral : goal.returns-then-is_numeral
returns-then-is_numeral c =
    let pieces : Pieces c.args.bytes.now c.split_before.result.0.now c.split_before.result.1.now c.split_before-2.result.0.now c.split_before-2.result.1.now
    c.after_first-fraction.result.now =
    record {
      mantissa_is = c.split_before.ensures.front;
      scale_is = c.split_before.ensures.rest;
      whole_is = c.split_before-2.ensures.front;
      rest_is = c.split_before-2.ensures.rest;
      fraction_is = c.after_first-fraction.ensures.rest;
    } in
    let short : length c.joined-digits.result.items ≤ 70 = omega (arith, ap (length {A = ℕ}) c.as_slice.ensures.value, c.as_slice.ensures.fits) in
    let near : SFits w64 c.in-Some.exponent = search rules in
    let fits : SFits w64 c.less.result = search rules in
    let less : c.less.result ≡ c.in-Some.exponent -ℤ pos (length c.after_first-fraction.result.now) =
    c.less.ensures ∙ ap (λ z. z -ℤ pos (length c.after_first-fraction.result.now)) (to_z-of_z w64 c.in-Some.exponent near) in
    let shifted : c.shifted.result ≡ whole_real (signed c.args.negative (number_of c.joined-digits.result.items)) c.less.result =
    c.shifted.ensures
    ∙ ap (λ z. whole_real (signed c.args.negative (number_of c.as_slice-then-is_numeral.result.now)) z) (to_z-of_z w64 c.less.result fits)
    ∙ ap (λ xs. whole_real (signed c.args.negative (number_of xs)) c.less.result) c.as_slice-then-is_numeral.ensures.value in
    real-whole c.args.negative c.joined-digits.result.items c.in-Some.exponent c.less.result c.shifted.result pieces c.joined-digits.ensures
    (ap is_numeral (sym c.as_slice.ensures.value) ∙ sym c.is_numeral.ensures ∙ c.if-is_numeral.true) short c.in-Some.ensures.value less shifted

pub returns-else-is_numeral : goal.returns-else-is_numeral
returns-else-is_numeral c =
    let pieces : Pieces c.args.bytes.now c.split_before.result.0.now c.split_before.result.1.now c.split_before-2.result.0.now c.split_before-2.result.1.now
    c.after_first-fraction.result.now =
    record {
      mantissa_is = c.split_before.ensures.front;
      scale_is = c.split_before.ensures.rest;
      whole_is = c.split_before-2.ensures.front;
      rest_is = c.split_before-2.ensures.rest;
      fraction_is = c.after_first-fraction.ensures.rest;
    } in
    real-without_digits c.args.negative c.joined-digits.result.items pieces c.joined-digits.ensures
    (ap is_numeral (sym c.as_slice.ensures.value) ∙ sym c.is_numeral.ensures ∙ c.if-is_numeral.false)
