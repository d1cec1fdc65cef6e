use Rattle.std.proofs.Common.{◌≡◌, ◌-◌, ◌≤◌, length}
use Rattle.node_sums.specs.Merging.{AreOwnTo}
use Rattle.node_sums.specs.OutlinePasses.{AreOutlinesOf}
use Rattle.node_sums.proofs.outline.add_row.Given as goal

abbrev pub invariant-loop-p : goal.invariant-loop-p
invariant-loop-p l = record {
  own : AreOutlinesOf (AreOwnTo l.plane l.node_of l.p) l.outlines;
  same_length : length l.outlines ≡ length l.fn.outlines;
  low : l.first ≤ l.p;
  high : l.p ≤ l.end;
}

abbrev pub decreases-loop-p : goal.decreases-loop-p
decreases-loop-p l = l.end - l.p
