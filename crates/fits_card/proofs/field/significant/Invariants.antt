use Rattle.std.proofs.Common.{◌≡◌, ◌≤◌, take, length}
use Rattle.fits_card.specs.Pieces.{without_trailing_spaces}
use Rattle.fits_card.proofs.field.significant.Given as goal

abbrev pub invariant-loop-kept : goal.invariant-loop-kept
invariant-loop-kept l = record {
  within : l.kept ≤ length l.bytes;
  same : without_trailing_spaces l.bytes ≡ without_trailing_spaces (take l.kept l.bytes);
}

abbrev pub decreases-loop-kept : goal.decreases-loop-kept
decreases-loop-kept l = l.kept
