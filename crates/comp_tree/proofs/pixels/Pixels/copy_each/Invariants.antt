-- The first k pixels of the run are there.
use Rattle.std.proofs.Common.{◌≡◌, ℕ, ◌+◌, ◌<◌, length}
use Rattle.comp_tree.specs.Raster.{value_at}
use Rattle.comp_tree.proofs.pixels.Pixels.copy_each.Given as goal

abbrev pub invariant-loop-k : goal.invariant-loop-k
invariant-loop-k l = record {
  one_each : length l.run ≡ length l.fn.run;
  same : (k : ℕ) → k < l.k → value_at l.run k ≡ value_at l.self (l.first + k);
}
