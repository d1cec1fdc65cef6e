use Rattle.std.proofs.Common.{◌≡◌, ◌+◌, ◌*◌, ◌≤◌, length}
use Rattle.comp_tree.specs.Counts.{count_defined}
use Rattle.tree_join.specs.Moves.{furthest}
use Rattle.tree_join.proofs.Turns.{IsWalking}
use Rattle.tree_join.proofs.walk.join_later.Given as goal

abbrev pub invariant-loop-one : goal.invariant-loop-one
invariant-loop-one g l = record {
  same_reference : l.links.places.ghost_name ≡ l.initial.links.places.ghost_name;
  same_list : l.skips.places.ghost_name ≡ l.initial.skips.places.ghost_name;
  same_places : length l.skips.places.now ≡ length l.initial.skips.places.now;
  walking : IsWalking l.rows.plane.now.values l.rows.first l.initial.links.places.now l.links.places.now l.skips.places.now l.p l.q l.a l.b;
  cost : l.moves + furthest l.rows.plane.now.values l.rows.first (length l.initial.links.places.now) l.a l.b + 1
      ≤ l.initial.moves + count_defined l.rows.plane.now.values l.rows.first (length l.initial.links.places.now);
  each : l.moves + l.initial.reads ≤ l.initial.moves + l.reads;
  reads : l.reads + 4 * furthest l.rows.plane.now.values l.rows.first (length l.initial.links.places.now) l.a l.b + 4
      ≤ l.initial.reads + 4 * count_defined l.rows.plane.now.values l.rows.first (length l.initial.links.places.now);
}

abbrev pub decreases-loop-one : goal.decreases-loop-one
decreases-loop-one g l = furthest l.rows.plane.now.values l.rows.first (length l.links.places.now) l.a l.b
