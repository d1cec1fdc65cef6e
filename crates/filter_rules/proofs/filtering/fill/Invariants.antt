use Rattle.std.proofs.Common.{◌≡◌, ◌*◌}
use Rattle.comp_tree.specs.Limits.{value_bound}
use Rattle.filter_rules.proofs.Filling.{IsFilled}
use Rattle.filter_rules.proofs.filtering.fill.Given as goal

abbrev pub invariant-loop-p : goal.invariant-loop-p
invariant-loop-p l = record {
  same_shape : l.canvas.shape ≡ l.fn.shape;
  same_most : l.canvas.most ≡ value_bound (l.fn.shape.width * l.fn.shape.height);
  filled : IsFilled l.node_of l.values l.canvas.values l.p;
}
