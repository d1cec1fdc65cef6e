use Rattle.std.proofs.Common.{refl, ◌∙◌, ◌<◌, length, arith}
use Rattle.comp_tree.specs.Counts.{count_defined}
use Rattle.tree_join.specs.Moves.{furthest}
use Rattle.tree_join.proofs.walk.join_later.Goals as goal
use Rattle.tree_join.proofs.Turns.{walk_none, walk_more, walk_ended, furthest_below}

pub loop-one-init : goal.loop-one-init
loop-one-init g c =
    let below : furthest c.args.rows.now.plane.now.values c.args.rows.now.first (length c.args.links.now.places.now) c.args.p c.args.q
    < count_defined c.args.rows.now.plane.now.values c.args.rows.now.first (length c.args.links.now.places.now)
    = furthest_below c.args.rows.now.plane.now.values c.args.rows.now.first c.args.links.now.places.now c.args.p c.args.q c.requires.pair in
    record {
      same_reference = refl;
      same_list = refl;
      same_places = refl;
      walking =
          walk_none c.args.rows.now.plane.now.values c.args.rows.now.first c.args.links.now.places.now c.args.p c.args.q c.args.skips.now.places.now
          c.requires.ready c.requires.pair;
      cost = omega (arith, below);
      each = omega arith;
      reads = omega (arith, below);
    }

pub loop-one-preserved : goal.loop-one-preserved
loop-one-preserved g c = record {
  same_reference = c.turn.ensures.same_reference ∙ c.loop-one.invariant.same_reference;
  same_list = c.turn.ensures.same_list ∙ c.loop-one.invariant.same_list;
  same_places = c.turn.ensures.same_places ∙ c.loop-one.invariant.same_places;
  walking =
      walk_more c.args.rows.now.plane.now.values c.args.rows.now.first c.args.links.now.places.now c.args.p c.args.q c.loop-one.links.places.now
      c.loop-one.skips.places.now
      c.turn.new.links.places.now c.loop-one.a c.loop-one.b c.loop-one.invariant.walking
      c.turn.new.skips.places.now (c.in-Some.one, c.in-Some.other) c.turn.ensures.same_length c.in-Some.ensures.moved c.in-Some.ensures.walk;
  cost = omega (arith, c.loop-one.invariant.cost, rw c.loop-one.invariant.walking.same_length at c.in-Some.ensures.cost);
  each = omega (arith, c.loop-one.invariant.each, c.turn.ensures.each);
  reads = omega (arith, c.loop-one.invariant.reads, rw c.loop-one.invariant.walking.same_length at c.in-Some.ensures.reads);
}

pub returns-clause-joined : goal.returns-clause-joined
returns-clause-joined g c =
    walk_ended c.args.rows.now.plane.now.values c.args.rows.now.first c.args.links.now.places.now c.args.p c.args.q c.loop-one.links.places.now
    c.loop-one.skips.places.now
    c.turn.new.links.places.now c.loop-one.a c.loop-one.b c.loop-one.invariant.walking c.in_default.ensures.moved
