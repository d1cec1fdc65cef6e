-- The first k pixels are no farther from 0, and no smaller distance is enough for all.
use Rattle.std.proofs.Common.{ℕ, ◌≤◌}
use Rattle.comp_tree.specs.Raster.{HasValuesWithin}
use Rattle.comp_tree.proofs.Runs.{IsFirstWithin}
use Rattle.comp_tree.proofs.kept.farthest_short.Given as goal

abbrev pub invariant-loop-k : goal.invariant-loop-k
invariant-loop-k l = record {
  within : IsFirstWithin l.k l.distance l.pixels;
  least : (most : ℕ) → HasValuesWithin most l.pixels → l.distance ≤ most;
}
