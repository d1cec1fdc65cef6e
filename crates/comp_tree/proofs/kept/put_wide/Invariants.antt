-- The first k pixels of the band are where they belong, and all others are as they were.
use Rattle.std.proofs.Common.{◌≡◌, ℕ, ◌+◌, ◌<◌, ◌≤◌, length}
use Rattle.comp_tree.specs.Raster.{value_at}
use Rattle.comp_tree.proofs.kept.put_wide.Given as goal

abbrev pub invariant-loop-k : goal.invariant-loop-k
invariant-loop-k l = record {
  one_each : length l.pixels ≡ length l.fn.pixels;
  inside : (k : ℕ) → k < l.k → value_at l.pixels (l.start + k) ≡ value_at l.band k;
  before : (p : ℕ) → p < l.start → value_at l.pixels p ≡ value_at l.fn.pixels p;
  behind : (p : ℕ) → l.start + l.k ≤ p → value_at l.pixels p ≡ value_at l.fn.pixels p;
}
