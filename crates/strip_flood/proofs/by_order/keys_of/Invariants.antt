use Rattle.std.proofs.Common.{◌+◌, ◌-◌, ◌≤◌, length, All}
use Rattle.strip_flood.specs.Keys.{IsKey, HasKeys}
use Rattle.strip_flood.proofs.by_order.keys_of.Given as goal

abbrev pub invariant-loop-p : goal.invariant-loop-p
invariant-loop-p l = record {
  start : l.first ≤ l.p;
  inside : l.p ≤ l.end;
  keys : All (IsKey l.plane.values l.first (l.end - l.first)) l.keys.items;
  all : HasKeys l.plane.values l.first (l.p - l.first) l.keys.items;
  few : length l.keys.items + l.first ≤ l.p;
}

abbrev pub decreases-loop-p : goal.decreases-loop-p
decreases-loop-p l = l.end - l.p
