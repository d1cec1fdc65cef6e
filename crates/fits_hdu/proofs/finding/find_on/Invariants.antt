-- The HDU so far was found.
use Rattle.std.proofs.Common.{ℕ, ◌≤◌, List}
use Rattle.dev_io.specs.Streams.{Takes}
use Rattle.fits_hdu.specs.Headers.{found}
use Rattle.fits_hdu.proofs.Searching.{HduAt}
use Rattle.fits_hdu.proofs.finding.find_on.Given as goal

abbrev pub invariant-loop-before : goal.invariant-loop-before
invariant-loop-before g l = record {
  told : (bytes : List ℕ) (head : ℕ) → Takes bytes (g.S.Source.left l.fn.src) head
      → HduAt bytes l.fn.from (found l.fn.hdu head) l.before (g.S.Source.left l.src) l.last;
  later : g.S.Source.faults l.fn.src ≤ g.S.Source.faults l.src;
}
