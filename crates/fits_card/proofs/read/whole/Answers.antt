use Rattle.std.proofs.Common.{◌≡◌, ◌∙◌, sym, ap, refl}
use Rattle.fits_card.specs.Values.{whole_of}
use Rattle.fits_card.specs.declared.number.Whole.TheVariants.{Unreadable}
use Rattle.fits_card.proofs.ValueKinds.{value-of_token, value-without_token}
use Rattle.fits_card.proofs.read.whole.Goals as goal

pub returns : goal.returns
returns c = c.whole_token.ensures ∙ sym (ap whole_of (value-of_token c.args.card.now c.in-Some.token.now c.in-Some.ensures.content))

pub returns-in_default : goal.returns-in_default
returns-in_default c = value-without_token (λ v. Unreadable ≡ whole_of v) c.args.card.now c.in_default.ensures.content refl refl (λ bytes. refl)
