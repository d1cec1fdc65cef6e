use Rattle.std.proofs.Common.{◌≡◌, drop}
use Rattle.fits_card.specs.Pieces.{without_leading_spaces}
use Rattle.fits_card.proofs.field.skip_spaces.Given as goal

abbrev pub invariant-loop-at : goal.invariant-loop-at
invariant-loop-at l = without_leading_spaces l.bytes ≡ without_leading_spaces (drop l.at l.bytes)
