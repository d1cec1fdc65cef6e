use Rattle.std.proofs.Common.{◌≡◌, ◌-◌, ◌≤◌, length}
use Rattle.strip_flood.proofs.Handing.{IsHanding}
use Rattle.strip_flood.proofs.by_order.rank_by_order.Given as goal

abbrev pub invariant-loop-k : goal.invariant-loop-k
invariant-loop-k l = record {
  size : length l.levels.items ≡ l.total;
  few : l.total ≤ l.end - l.first;
  ranks : length l.ranks.items ≡ l.end - l.first;
  handing : IsHanding l.plane.values l.first (l.end - l.first) l.levels.items l.ranks.items l.k l.count;
}
