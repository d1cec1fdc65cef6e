use Rattle.std.proofs.Common.{◌≤◌, length}
use Rattle.filter_rules.specs.Passes.{AreWithChildren}
use Rattle.filter_rules.proofs.keeping.keep_with_children.Given as goal

abbrev pub invariant-loop-n : goal.invariant-loop-n
invariant-loop-n l = record {
  within : l.n ≤ length l.rows;
  asked : AreWithChildren l.rows l.fn.kept l.kept l.n;
}
