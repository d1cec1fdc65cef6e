use Rattle.std.proofs.Common.{◌≤◌, ◌-◌}
use Rattle.comp_tree.proofs.tests.sums_of_defined.Given as goal

abbrev pub invariant-loop-p : goal.invariant-loop-p
invariant-loop-p l = l.p ≤ l.end

abbrev pub decreases-loop-p : goal.decreases-loop-p
decreases-loop-p l = l.end - l.p
