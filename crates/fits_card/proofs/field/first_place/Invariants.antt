use Rattle.std.proofs.Common.{◌≡◌, ℕ, ◌<◌, false, get_or}
use Rattle.fits_card.specs.Pieces.{is_among}
use Rattle.fits_card.proofs.field.first_place.Given as goal

abbrev pub invariant-loop-at : goal.invariant-loop-at
invariant-loop-at l = (k : ℕ) → k < l.at → is_among l.stops (get_or l.bytes k 0) ≡ false
