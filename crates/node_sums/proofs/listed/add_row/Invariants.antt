use Rattle.std.proofs.Common.{◌≡◌, ◌-◌, ◌≤◌, length}
use Rattle.node_sums.specs.Merging.{AreOwnTo, places_of}
use Rattle.node_sums.proofs.listed.add_row.Given as goal

abbrev pub invariant-loop-p : goal.invariant-loop-p
invariant-loop-p l = record {
  own : AreOwnTo l.plane (places_of l.numbers l.node_of) l.p l.sums;
  same_length : length l.sums ≡ length l.fn.sums;
  low : l.first ≤ l.p;
  high : l.p ≤ l.end;
}

abbrev pub decreases-loop-p : goal.decreases-loop-p
decreases-loop-p l = l.end - l.p
