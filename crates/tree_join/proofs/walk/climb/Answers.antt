use Rattle.std.proofs.Common.{refl, ap, ◌∙◌, length, length-set, arith, ◌<◌}
use Rattle.comp_tree.specs.EarlierCounts.{earlier_count}
use Rattle.tree_join.proofs.walk.climb.Goals as goal
use Rattle.tree_join.proofs.Climbing.{climb_none, climb_walk, climb_like, climb_first, climb_more, climb_less, climb_nearer, climb_ended}

pub loop-next-init : goal.loop-next-init
loop-next-init g c = record {
  same_reference = refl;
  same_list = refl;
  same_places = refl;
  climbing = climb_none c.args.rows.now.plane.now.values c.args.rows.now.first c.args.links.now.places.now c.args.p c.args.b c.args.skips.now.places.now c.requires.walk;
  later = omega arith;
  cost = omega arith;
  each = omega arith;
  reads = omega arith;
}

pub next_up-requires : goal.next_up-requires
next_up-requires g c = record {
  walk =
      climb_walk c.args.rows.now.plane.now.values c.args.rows.now.first c.args.links.now.places.now c.args.p c.args.b c.loop-next.links.places.now
      c.loop-next.skips.places.now c.loop-next.before c.loop-next.at c.loop-next.invariant.climbing;
}

pub loop-next-smaller-then-before-at : goal.loop-next-smaller-then-before-at
loop-next-smaller-then-before-at g c =
    climb_nearer c.args.rows.now.plane.now.values c.args.rows.now.first c.args.links.now.places.now c.args.p c.args.b c.loop-next.links.places.now
    c.loop-next.skips.places.now c.loop-next.before c.loop-next.at c.loop-next.invariant.climbing
    c.next_up.new.links.places.now c.in-Some.next c.next_up.ensures.same_length c.in-Some.ensures.up

pub loop-next-smaller : goal.loop-next-smaller
loop-next-smaller g c =
    climb_nearer c.args.rows.now.plane.now.values c.args.rows.now.first c.args.links.now.places.now c.args.p c.args.b c.loop-next.links.places.now
    c.loop-next.skips.places.now c.loop-next.before c.loop-next.at c.loop-next.invariant.climbing
    c.next_up.new.links.places.now c.in-Some.next c.next_up.ensures.same_length c.in-Some.ensures.up

pub loop-next-preserved-then-before-at : goal.loop-next-preserved-then-before-at
loop-next-preserved-then-before-at g c =
    let less : earlier_count c.args.rows.now.plane.now.values c.args.rows.now.first (length c.args.links.now.places.now) c.in-Some.next
    < earlier_count c.args.rows.now.plane.now.values c.args.rows.now.first (length c.args.links.now.places.now) c.loop-next.at
    =
    climb_less c.args.rows.now.plane.now.values c.args.rows.now.first c.args.links.now.places.now c.args.p c.args.b c.loop-next.links.places.now
    c.loop-next.skips.places.now c.loop-next.before c.loop-next.at c.loop-next.invariant.climbing
    c.next_up.new.links.places.now c.next_up.ensures.same_length c.next_up.ensures.like c.in-Some.next c.in-Some.ensures.up in
    record {
      same_reference = c.next_up.ensures.same_reference ∙ c.loop-next.invariant.same_reference;
      same_list = c.note.ensures.same_reference ∙ c.loop-next.invariant.same_list;
      same_places = ap (λ l. length l) c.note.ensures.places ∙ length-set _ _ _ ∙ c.loop-next.invariant.same_places;
      climbing =
          climb_more c.args.rows.now.plane.now.values c.args.rows.now.first c.args.links.now.places.now c.args.p c.args.b c.loop-next.links.places.now
          c.loop-next.skips.places.now c.loop-next.before c.loop-next.at c.loop-next.invariant.climbing
          c.next_up.new.links.places.now c.next_up.ensures.same_length c.next_up.ensures.like c.in-Some.next c.in-Some.ensures.up c.note.new.self.places.now c.note.ensures.places;
      later = omega (arith, c.loop-next.invariant.later);
      cost = omega (arith, less, c.loop-next.invariant.cost);
      each = omega (arith, c.loop-next.invariant.each, c.next_up.ensures.more);
      reads = omega (arith, less, c.loop-next.invariant.reads, c.next_up.ensures.reads);
    }

pub loop-next-preserved : goal.loop-next-preserved
loop-next-preserved g c =
    let less : earlier_count c.args.rows.now.plane.now.values c.args.rows.now.first (length c.args.links.now.places.now) c.in-Some.next
    < earlier_count c.args.rows.now.plane.now.values c.args.rows.now.first (length c.args.links.now.places.now) c.loop-next.at
    =
    climb_less c.args.rows.now.plane.now.values c.args.rows.now.first c.args.links.now.places.now c.args.p c.args.b c.loop-next.links.places.now
    c.loop-next.skips.places.now c.loop-next.before c.loop-next.at c.loop-next.invariant.climbing
    c.next_up.new.links.places.now c.next_up.ensures.same_length c.next_up.ensures.like c.in-Some.next c.in-Some.ensures.up in
    record {
      same_reference = c.next_up.ensures.same_reference ∙ c.loop-next.invariant.same_reference;
      same_list = c.loop-next.invariant.same_list;
      same_places = c.loop-next.invariant.same_places;
      climbing =
          climb_first c.args.rows.now.plane.now.values c.args.rows.now.first c.args.links.now.places.now c.args.p c.args.b c.loop-next.links.places.now
          c.loop-next.skips.places.now c.loop-next.before c.loop-next.at c.loop-next.invariant.climbing
          c.next_up.new.links.places.now c.next_up.ensures.same_length c.next_up.ensures.like c.in-Some.next c.in-Some.ensures.up;
      later = omega (arith, c.loop-next.invariant.later);
      cost = omega (arith, less, c.loop-next.invariant.cost);
      each = omega (arith, c.loop-next.invariant.each, c.next_up.ensures.more);
      reads = omega (arith, less, c.loop-next.invariant.reads, c.next_up.ensures.reads);
    }

pub returns-clause-like : goal.returns-clause-like
returns-clause-like g c =
    climb_like c.args.rows.now.plane.now.values c.args.rows.now.first c.args.links.now.places.now c.args.p c.args.b c.loop-next.links.places.now
    c.loop-next.skips.places.now c.loop-next.before c.loop-next.at c.loop-next.invariant.climbing
    c.next_up.new.links.places.now c.next_up.ensures.same_length c.next_up.ensures.like

pub returns-clause-walk : goal.returns-clause-walk
returns-clause-walk g c =
    climb_ended c.args.rows.now.plane.now.values c.args.rows.now.first c.args.links.now.places.now c.args.p c.args.b c.loop-next.links.places.now
    c.loop-next.skips.places.now c.loop-next.before c.loop-next.at c.loop-next.invariant.climbing
    c.next_up.new.links.places.now c.next_up.ensures.same_length c.next_up.ensures.like
