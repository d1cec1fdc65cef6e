use Rattle.std.proofs.Common.{◌≡◌, ◌∙◌, sym, ap, refl, None}
use Rattle.fits_card.specs.Values.{integer_of}
use Rattle.fits_card.proofs.ValueKinds.{value-of_token, value-without_token}
use Rattle.fits_card.proofs.read.integer.Goals as goal

pub returns : goal.returns
returns c = c.integer_token.ensures ∙ sym (ap integer_of (value-of_token c.args.card.now c.in-Some.token.now c.in-Some.ensures.content))

pub returns-in_default : goal.returns-in_default
returns-in_default c = value-without_token (λ v. None ≡ integer_of v) c.args.card.now c.in_default.ensures.content refl refl (λ bytes. refl)
