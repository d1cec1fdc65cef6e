use Rattle.std.proofs.Common.{◌≡◌, ◌∙◌, sym, true, get_or, arith}
use Rattle.fits_card.specs.Pieces.{is_among}
use Rattle.fits_card.proofs.Cutting.{place-found, place-none}
use Rattle.fits_card.proofs.field.first_place.Goals as goal

pub returns-then-contains-clause-place : goal.returns-then-contains-clause-place
returns-then-contains-clause-place c =
    let here : is_among c.args.stops.now (get_or c.args.bytes.now c.loop-at.at 0) ≡ true = sym c.contains.ensures.value ∙ c.if-contains.true in
    place-found c.args.stops.now c.args.bytes.now c.loop-at.at c.loop-at-test.true c.loop-at.invariant here

pub returns-clause-place : goal.returns-clause-place
returns-clause-place c =
    place-none c.args.stops.now c.args.bytes.now (λ k h. c.loop-at.invariant k (omega arith))
