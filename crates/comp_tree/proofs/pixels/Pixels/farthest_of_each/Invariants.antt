-- The pixels before p are no farther from 0, and no smaller distance is enough for all.
use Rattle.std.proofs.Common.{ℕ, ◌≤◌}
use Rattle.comp_tree.specs.Raster.{HasValuesWithin}
use Rattle.comp_tree.proofs.Runs.{IsFirstWithin}
use Rattle.comp_tree.proofs.pixels.Pixels.farthest_of_each.Given as goal

abbrev pub invariant-loop-p : goal.invariant-loop-p
invariant-loop-p l = record {
  within : IsFirstWithin l.p l.distance l.self;
  least : (most : ℕ) → HasValuesWithin most l.self → l.distance ≤ most;
}
