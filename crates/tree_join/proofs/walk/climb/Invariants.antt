use Rattle.std.proofs.Common.{◌≡◌, ◌+◌, ◌*◌, ◌≤◌, length}
use Rattle.comp_tree.specs.EarlierCounts.{earlier_count}
use Rattle.tree_join.proofs.Climbing.{IsClimbing}
use Rattle.tree_join.proofs.walk.climb.Given as goal

abbrev pub invariant-loop-next : goal.invariant-loop-next
invariant-loop-next g l = record {
  same_reference : l.links.places.ghost_name ≡ l.initial.links.places.ghost_name;
  same_list : l.skips.places.ghost_name ≡ l.initial.skips.places.ghost_name;
  same_places : length l.skips.places.now ≡ length l.initial.skips.places.now;
  climbing : IsClimbing l.rows.plane.now.values l.rows.first l.initial.links.places.now l.links.places.now l.skips.places.now l.p l.b l.before l.at;
  later : l.initial.moves ≤ l.moves;
  cost : l.moves + earlier_count l.rows.plane.now.values l.rows.first (length l.initial.links.places.now) l.at
      ≤ l.initial.moves + earlier_count l.rows.plane.now.values l.rows.first (length l.initial.links.places.now) l.p;
  each : l.moves + l.initial.reads ≤ l.initial.moves + l.reads;
  reads : l.reads + 3 * earlier_count l.rows.plane.now.values l.rows.first (length l.initial.links.places.now) l.at
      ≤ l.initial.reads + 3 * earlier_count l.rows.plane.now.values l.rows.first (length l.initial.links.places.now) l.p;
}

abbrev pub decreases-loop-next : goal.decreases-loop-next
decreases-loop-next g l = earlier_count l.rows.plane.now.values l.rows.first (length l.links.places.now) l.at
