use Rattle.std.proofs.Common.{◌≡◌}
use Rattle.comp_tree.specs.Raster.{raster_painted, value_at}
use Rattle.comp_tree.specs.Writing.{IsWritten}
use Rattle.tree_products.specs.Trials.{trial_image}
use Rattle.tree_products.proofs.Trials.{state_at}
use Rattle.tree_products.proofs.trial.trial_image.Given as goal

abbrev pub invariant-loop-p : goal.invariant-loop-p
invariant-loop-p l = record {
  written : IsWritten (trial_image l.seed l.fn.shape) (value_at (trial_image l.seed l.fn.shape).values) l.p (raster_painted l.canvas);
  same_most : l.canvas.most ≡ 255;
  state_is : l.state ≡ state_at l.seed l.p;
}
