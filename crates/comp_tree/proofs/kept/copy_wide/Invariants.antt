-- The first k pixels of the band are there.
use Rattle.std.proofs.Common.{◌≡◌, ℕ, ◌+◌, ◌<◌, length}
use Rattle.comp_tree.specs.Raster.{value_at}
use Rattle.comp_tree.proofs.kept.copy_wide.Given as goal

abbrev pub invariant-loop-k : goal.invariant-loop-k
invariant-loop-k l = record {
  one_each : length l.band ≡ length l.fn.band;
  same : (k : ℕ) → k < l.k → value_at l.band k ≡ value_at l.pixels (l.start + k);
}
