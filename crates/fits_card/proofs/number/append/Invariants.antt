use Rattle.std.proofs.Common.{◌≡◌, ◌++◌, take}
use Rattle.fits_card.proofs.number.append.Given as goal

abbrev pub invariant-loop-digit : goal.invariant-loop-digit
invariant-loop-digit l = l.digits.items ≡ l.fn.digits.items ++ take l.digit-index l.more
