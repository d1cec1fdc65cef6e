-- The cards so far are taken off, and the others are left.
use Rattle.std.proofs.Common.{drop}
use Rattle.std.specs.List.{concat}
use Rattle.fits_back.proofs.Stripping.{IsLeft}
use Rattle.fits_back.proofs.front.strip_cards.Given as goal

abbrev pub invariant-loop-card : goal.invariant-loop-card
invariant-loop-card l = IsLeft (concat l.cards) (concat (drop l.card-index l.cards)) l.bytes l.rest
