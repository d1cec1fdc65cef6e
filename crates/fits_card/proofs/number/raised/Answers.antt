use Rattle.std.proofs.Common.{◌≡◌, ◌∙◌, ap, subst, ◌*◌, ◌^◌, ◌<◌, ◌≤◌, ℕ, arith}
use Rattle.std.specs.Prelude.{SomeIff}
use Rattle.fits_card.specs.Values.{number_of}
use Rattle.fits_card.proofs.Wholes.{le-raised, raised-beyond}
use Rattle.fits_card.proofs.number.raised.Goals as goal

pub returns : goal.returns
returns c =
    let same : c.in-Some.number * c.pow.result ≡ number_of c.args.digits.now * 10 ^ c.args.zeros =
    ap (λ n. n * c.pow.result) c.in-Some.ensures.1 ∙ ap (λ p. number_of c.args.digits.now * p) c.pow.ensures in
    let P : ℕ → Type 0 = λ n. SomeIff c.checked_mul.result (n < 2 ^ 64) n in
    subst P same c.checked_mul.ensures

pub returns-in_default : goal.returns-in_default
returns-in_default c small =
    let more : number_of c.args.digits.now ≤ number_of c.args.digits.now * 10 ^ c.args.zeros = le-raised (number_of c.args.digits.now) c.args.zeros in
    c.in_default.ensures (omega arith)

pub returns-then-zeros-gt19 : goal.returns-then-zeros-gt19
returns-then-zeros-gt19 c small =
    let same : c.in-Some.number ≡ number_of c.args.digits.now = c.in-Some.ensures.1 in
    let far : 2 ^ 64 ≤ number_of c.args.digits.now * 10 ^ c.args.zeros =
    raised-beyond (number_of c.args.digits.now) c.args.zeros (omega arith) c.if-zeros-gt19.true in
    absurd (omega arith)
