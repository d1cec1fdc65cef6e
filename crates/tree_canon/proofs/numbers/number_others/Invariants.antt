use Rattle.std.proofs.Common.{◌≤◌, ◌-◌}
use Rattle.tree_canon.proofs.Numbering.{IsFollowedTo}
use Rattle.tree_canon.proofs.numbers.number_others.Given as goal

abbrev pub invariant-loop-p : goal.invariant-loop-p
invariant-loop-p l = record {
  followed : IsFollowedTo l.links l.fn.numbers l.numbers l.p;
  within : l.p ≤ l.count;
}

abbrev pub decreases-loop-p : goal.decreases-loop-p
decreases-loop-p l = l.count - l.p
