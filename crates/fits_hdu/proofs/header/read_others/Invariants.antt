-- The cards so far were read and are kept.
use Rattle.std.proofs.Common.{◌≡◌, ℕ, ◌+◌, ◌≤◌, List}
use Rattle.fits_hdu.specs.Headers.{axis_count, card_at}
use Rattle.fits_hdu.specs.Reading.{CardsPassed}
use Rattle.fits_hdu.proofs.Stages.{OthersTo}
use Rattle.fits_hdu.proofs.header.read_others.Given as goal

abbrev pub invariant-loop-number : goal.invariant-loop-number
invariant-loop-number g l = record {
  told : (bytes : List ℕ) (start : ℕ) → CardsPassed bytes l.hdu start (g.S.Source.left l.initial.src) (3 + l.naxis) → axis_count (card_at bytes start) ≡ l.naxis
      → OthersTo bytes l.hdu start (g.S.Source.left l.src) l.number l.others;
  later : g.S.Source.faults l.initial.src ≤ g.S.Source.faults l.src;
}
