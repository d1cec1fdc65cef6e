use Rattle.std.proofs.Common.{◌∙◌, ap, take, drop}
use Rattle.fits_card.proofs.Cutting.{before-place, from-place}
use Rattle.fits_card.proofs.field.split_before.Goals as goal

pub returns-clause-front : goal.returns-clause-front
returns-clause-front c =
    c.split_at.ensures.front ∙ ap (λ n. take n c.args.bytes.now) c.first_place.ensures.place ∙ before-place c.args.stops.now c.args.bytes.now

pub returns-clause-rest : goal.returns-clause-rest
returns-clause-rest c =
    c.split_at.ensures.back ∙ ap (λ n. drop n c.args.bytes.now) c.first_place.ensures.place ∙ from-place c.args.stops.now c.args.bytes.now
