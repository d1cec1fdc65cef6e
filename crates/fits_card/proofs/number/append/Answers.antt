use Rattle.std.proofs.Common.{◌≡◌, ◌∙◌, ap, ◌+◌, take, length, arith, ℕ, length-append}
use Rattle.std.proofs.lemmas.List.{length-take-le}
use Rattle.fits_card.proofs.number.append.Goals as goal

pub push-requires : goal.push-requires
push-requires c =
    let so_far : length c.loop-digit.digits.items ≡ length c.args.digits.now.items + length (take c.loop-digit.digit-index c.args.more.now) =
    ap (length {A = ℕ}) c.loop-digit.invariant ∙ length-append c.args.digits.now.items (take c.loop-digit.digit-index c.args.more.now) in
    let taken : length (take c.loop-digit.digit-index c.args.more.now) ≡ c.loop-digit.digit-index =
    length-take-le c.loop-digit.digit-index c.args.more.now (omega arith) in
    omega arith
