use Rattle.std.proofs.Common.{length}
use Rattle.comp_tree.specs.Forest.{IsLink}
use Rattle.tree_join.specs.Skips.{AreTrueSkips}
use Rattle.tree_join.proofs.tests.join_by.Given as goal

abbrev pub invariant-loop-row : goal.invariant-loop-row
invariant-loop-row g l = record {
  hold : AreTrueSkips l.plane.values 0 (length l.parents) (IsLink 0 l.parents) l.skips;
}
