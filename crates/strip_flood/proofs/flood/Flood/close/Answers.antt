use Rattle.std.proofs.Common.{◌≡◌, ◌+◌, ◌-◌, ◌<◌, ◌≤◌, set, slice_index, length, subst, arith}
use Rattle.comp_tree.specs.Limits.{most_pixels}
use Rattle.comp_tree.specs.Forest.{no_node}
use Rattle.strip_flood.specs.Flood.{state_with, IsInQueue, IsTurning}
use Rattle.strip_flood.specs.Strips.{ground_of, state_of}
use Rattle.strip_flood.proofs.Flow.{item_read}
use Rattle.strip_flood.proofs.Retiring.{close_end, close_hang, front_queued}
use Rattle.strip_flood.proofs.Looking.{front_current}
use Rattle.strip_flood.proofs.flood.Flood.close.Goals as goal

pub returns-in_default-clause-between : goal.returns-in_default-clause-between
returns-in_default-clause-between c = record {
  items = c.requires.items;
  turning = close_end (ground_of c.args.strip.now)
      (state_of c.args.self.now) c.requires.strip.ranked c.requires.fair c.args.rank c.requires.busy c.requires.low c.requires.kept
      c.requires.empty c.in_default.ensures;
}

pub overflow_add-pixel : goal.overflow_add-pixel
overflow_add-pixel c =
    let q : IsInQueue (ground_of c.args.strip.now) c.args.self.now.cursors.items (c.args.strip.now.first + c.in-Some-front.item) =
    front_queued (ground_of c.args.strip.now) (state_of c.args.self.now) c.requires.fair c.in-Some.next c.in-Some-front.item c.in-Some-front.ensures.first in
    let l : c.args.strip.now.first + c.in-Some-front.item < c.args.strip.now.first + length c.args.strip.now.ranks.items = q.inside.high in
    let few : c.args.strip.now.first + length c.args.strip.now.ranks.items ≤ most_pixels = c.requires.strip.few in omega arith

pub returns-clause-between : goal.returns-clause-between
returns-clause-between c =
    let read : slice_index c.args.self.now.earliest.items c.args.rank ≡ c.index-kept.result.now =
    item_read c.args.self.now.earliest.items c.args.rank c.index-kept.result.now
    (let l : length c.args.self.now.earliest.items ≡ length c.args.strip.now.levels.items =
    c.requires.fair.earliest_length in let b : c.args.rank < length c.args.strip.now.levels.items =
    c.requires.low in omega arith) c.index-kept.ensures in
    record {
      items = c.requires.items;
      turning = subst (λ e. IsTurning (ground_of c.args.strip.now)
          (state_with c.args.self.now.queue.lists c.args.self.now.cursors.items (set c.args.self.now.earliest.items c.args.rank no_node)
          (set c.args.self.now.links.items (e - c.args.strip.now.first) (c.args.strip.now.first + c.in-Some-front.item)))) read
          (close_hang (ground_of c.args.strip.now)
          (state_of c.args.self.now) c.requires.strip.ranked c.requires.fair c.args.rank c.requires.busy c.requires.low c.requires.kept c.requires.empty
          c.in-Some.next c.in-Some-front.item c.in-Some.ensures c.in-Some-front.ensures.first c.requires.above);
    }

pub returns-clause-next : goal.returns-clause-next
returns-clause-next c =
    let at = front_current (ground_of c.args.strip.now)
    (state_of c.args.self.now) c.requires.fair c.in-Some.next c.in-Some-front.item c.in-Some.ensures.above c.in-Some-front.ensures.first in
    record { top = record { queued = at.top.queued; above = at.top.above }; rank = at.rank; front = at.front }
