-- The fluxes so far are added, and none is beyond 64 bits.
use Rattle.std.proofs.Common.{◌≡◌, ◌*◌, ◌^◌, pos, ◌≤ℤ◌, neg_ℤ}
use Rattle.survey_core.specs.Listings.{flux_total}
use Rattle.survey_core.proofs.listing.flux_total.Given as goal

abbrev pub invariant-loop-row : goal.invariant-loop-row
invariant-loop-row l = record {
  total_is : l.total ≡ flux_total l.cells l.row;
  low : neg_ℤ (pos (l.row * 2 ^ 63)) ≤ℤ l.total;
  high : l.total ≤ℤ pos (l.row * 2 ^ 63);
}
