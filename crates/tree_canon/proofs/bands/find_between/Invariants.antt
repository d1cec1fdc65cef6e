use Rattle.std.proofs.Common.{◌≡◌, ◌≤◌, ◌-◌}
use Rattle.tree_canon.specs.Canonical.{canonical_between}
use Rattle.tree_canon.proofs.bands.find_between.Given as goal

abbrev pub invariant-loop-p : goal.invariant-loop-p
invariant-loop-p l = record {
  found : l.found.items ≡ canonical_between l.plane l.links l.first l.p;
  behind : l.first ≤ l.p;
  within : l.p ≤ l.end;
}

abbrev pub decreases-loop-p : goal.decreases-loop-p
decreases-loop-p l = l.end - l.p
