use Rattle.std.proofs.Common.{◌≡◌, ◌+◌, ◌≤◌, length}
use Rattle.std.specs.Option.{option_map}
use Rattle.fits_card.specs.Pieces.{closed}
use Rattle.fits_card.proofs.Cutting.{with_front}
use Rattle.fits_card.proofs.field.unquoted.Given as goal

abbrev pub invariant-loop-rest : goal.invariant-loop-rest
invariant-loop-rest l = record {
  string : closed l.bytes ≡ option_map (with_front l.text.items) (closed l.rest);
  room : length l.text.items + length l.rest ≤ 69;
}

abbrev pub decreases-loop-rest : goal.decreases-loop-rest
decreases-loop-rest l = length l.rest
