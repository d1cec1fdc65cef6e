-- The cards of the columns so far are taken off, and those of the others are left.
use Rattle.fits_back.proofs.Headers.{columns_from}
use Rattle.fits_back.proofs.Stripping.{IsLeft}
use Rattle.fits_back.proofs.table.strip_columns.Given as goal

abbrev pub invariant-loop-index : goal.invariant-loop-index
invariant-loop-index l = IsLeft (columns_from 0 l.columns) (columns_from l.index l.columns) l.bytes l.rest
