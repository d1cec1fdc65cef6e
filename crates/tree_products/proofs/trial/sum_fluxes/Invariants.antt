use Rattle.std.proofs.Common.{◌≡◌, ◌*◌, ◌≤◌}
use Rattle.std.specs.Prelude.{sum_by, unsigned_abs}
use Rattle.std.specs.List.{range_with_len}
use Rattle.comp_tree.specs.declared.shape.Connect.{Connect}
use Rattle.comp_tree.specs.Raster.{Raster}
use Rattle.comp_tree.specs.Components.{tree_of}
use Rattle.node_sums.specs.Outlines.{outlines_in}
use Rattle.node_sums.specs.Flux.{flux_of}
use Rattle.tree_products.specs.TrialSizes.{flux_bound}
use Rattle.tree_products.proofs.trial.sum_fluxes.Given as goal

abbrev pub invariant-loop-n : goal.invariant-loop-n
invariant-loop-n l = record {
  so_far : (plane : Raster) (connect : Connect) → l.tree ≡ tree_of plane connect → l.outlines ≡ outlines_in plane connect
      → l.fluxes ≡ sum_by (λ m. unsigned_abs (flux_of plane connect m)) (range_with_len 0 l.n);
  small : l.fluxes ≤ flux_bound * l.n;
}
