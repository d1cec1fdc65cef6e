use Rattle.fits_back.proofs.Headers.{cards_missing, header_stripped}
use Rattle.fits_back.proofs.front.strip_header.Goals as goal

pub returns-in_default : goal.returns-in_default
returns-in_default c = cards_missing c.args.cards.now c.args.bytes.now c.in_default.ensures

pub returns : goal.returns
returns c = header_stripped c.args.cards.now c.args.bytes.now c.in-Some.behind.now _ c.in-Some.ensures c.strip_fill.ensures
