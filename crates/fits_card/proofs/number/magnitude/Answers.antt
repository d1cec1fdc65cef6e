use Rattle.std.proofs.Common.{◌≡◌, ◌∙◌, sym, ap, ◌<◌, ◌≤◌, ◌+◌, ◌*◌, ◌-◌, ◌^◌, take, get_or, arith}
use Rattle.std.proofs.lemmas.List.{take_all}
use Rattle.fits_card.specs.Values.{number_of}
use Rattle.fits_card.proofs.Digits.{digit-in_range, digits-more, front-le}
use Rattle.fits_card.proofs.number.magnitude.Goals as goal

pub with_digit-requires-clause-low : goal.with_digit-requires-clause-low
with_digit-requires-clause-low c = (digit-in_range c.args.digits.now c.loop-digit.digit-index c.requires c.loop-digit-test.true).0

pub with_digit-requires-clause-high : goal.with_digit-requires-clause-high
with_digit-requires-clause-high c = (digit-in_range c.args.digits.now c.loop-digit.digit-index c.requires c.loop-digit-test.true).1

pub loop-digit-preserved : goal.loop-digit-preserved
loop-digit-preserved c =
    let next : c.in-Some.next ≡ c.loop-digit.sum * 10 + (get_or c.args.digits.now c.loop-digit.digit-index 0 - 48) = c.in-Some.ensures.1 in
    let small : c.loop-digit.sum * 10 + (get_or c.args.digits.now c.loop-digit.digit-index 0 - 48) < 2 ^ 64 = c.in-Some.ensures.0 in
    record {
      value =
          next
          ∙ ap (λ n. n * 10 + (get_or c.args.digits.now c.loop-digit.digit-index 0 - 48)) c.loop-digit.invariant.value
          ∙ sym (digits-more c.args.digits.now c.loop-digit.digit-index c.requires c.loop-digit-test.true);
      fits = omega arith;
    }

pub returns-in_default : goal.returns-in_default
returns-in_default c small =
    let so_far : c.loop-digit.sum ≡ number_of (take c.loop-digit.digit-index c.args.digits.now) = c.loop-digit.invariant.value in
    let next : number_of (take (c.loop-digit.digit-index + 1) c.args.digits.now)
    ≡ number_of (take c.loop-digit.digit-index c.args.digits.now) * 10 + (get_or c.args.digits.now c.loop-digit.digit-index 0 - 48) =
    digits-more c.args.digits.now c.loop-digit.digit-index c.requires c.loop-digit-test.true in
    let front : number_of (take (c.loop-digit.digit-index + 1) c.args.digits.now) ≤ number_of c.args.digits.now =
    front-le c.args.digits.now (c.loop-digit.digit-index + 1) in
    c.in_default.ensures (omega arith)

pub returns : goal.returns
returns c =
    let all : c.loop-digit.sum ≡ number_of c.args.digits.now =
    c.loop-digit.invariant.value ∙ ap number_of (take_all c.loop-digit.digit-index c.args.digits.now c.loop-digit-test.false) in
    let fits : c.loop-digit.sum < 2 ^ 64 = c.loop-digit.invariant.fits in
    (omega arith, all)
