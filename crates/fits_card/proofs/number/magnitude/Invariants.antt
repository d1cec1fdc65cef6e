use Rattle.std.proofs.Common.{◌≡◌, ◌<◌, ◌^◌, take}
use Rattle.fits_card.specs.Values.{number_of}
use Rattle.fits_card.proofs.number.magnitude.Given as goal

abbrev pub invariant-loop-digit : goal.invariant-loop-digit
invariant-loop-digit l = record {
  value : l.sum ≡ number_of (take l.digit-index l.digits);
  fits : l.sum < 2 ^ 64;
}
