-- The axes so far were read and are kept.
use Rattle.std.proofs.Common.{◌≡◌, ℕ, ◌≤◌, List}
use Rattle.fits_hdu.specs.Headers.{axis_count, card_at}
use Rattle.fits_hdu.specs.Reading.{CardsPassed}
use Rattle.fits_hdu.proofs.Stages.{AxesTo}
use Rattle.fits_hdu.proofs.header.read_axes.Given as goal

abbrev pub invariant-loop-count : goal.invariant-loop-count
invariant-loop-count g l = record {
  told : (bytes : List ℕ) (start : ℕ) → CardsPassed bytes l.hdu start (g.S.Source.left l.initial.src) 3 → axis_count (card_at bytes start) ≡ l.naxis
      → AxesTo bytes l.hdu start (g.S.Source.left l.src) l.count l.axes;
  later : g.S.Source.faults l.initial.src ≤ g.S.Source.faults l.src;
}
