use Rattle.fits_card.proofs.ValueKinds.{whole-read}
use Rattle.fits_card.proofs.read.whole_token.Goals as goal

pub returns : goal.returns
returns c =
    whole-read c.args.token.now c.split_sign-negative.result.1.now c.split_sign-negative.result.0 c.number.result c.split_sign-negative.ensures.negative
    c.split_sign-negative.ensures.rest c.number.ensures
