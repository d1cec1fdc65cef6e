use Rattle.fits_back.proofs.Stripping.{all_left, next_off, next_missing, pieces_off}
use Rattle.std.specs.List.{concat}
use Rattle.fits_back.proofs.front.strip_cards.Goals as goal

pub returns-in_default : goal.returns-in_default
returns-in_default c =
    next_missing c.args.cards.now c.loop-card.card-index c.args.bytes.now c.loop-card.rest.now c.loop-card-test.true c.loop-card.invariant c.in_default.ensures

pub loop-card-init : goal.loop-card-init
loop-card-init c = all_left (concat c.args.cards.now) c.args.bytes.now

pub loop-card-preserved : goal.loop-card-preserved
loop-card-preserved c =
    next_off c.args.cards.now c.loop-card.card-index c.args.bytes.now c.loop-card.rest.now _ c.loop-card-test.true c.loop-card.invariant c.in-Some.ensures

pub returns : goal.returns
returns c = pieces_off c.args.cards.now c.loop-card.card-index c.args.bytes.now c.loop-card.rest.now c.loop-card-test.false c.loop-card.invariant
