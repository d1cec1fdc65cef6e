use Rattle.std.proofs.Common.{◌≡◌, ◌-◌, ◌<◌, inl, refl, arith, ◌∙◌}
use Rattle.strip_flood.specs.Flood.{cursor_of}
use Rattle.strip_flood.specs.Strips.{ground_of, looking}
use Rattle.strip_flood.proofs.Flow.{cursor_read}
use Rattle.strip_flood.proofs.Seeing.{see_around, seen_already, seen_none, none_undefined, unseen_nowhere}
use Rattle.strip_flood.proofs.Looking.{stale_long, seen_stale, unseen_stale, look_still, still_front, look_pushed, low_front, high_front, queued_after}
use Rattle.strip_flood.proofs.Adapting.{nowhere_free, pushed_lists, pushed_items}
use Rattle.strip_flood.proofs.flood.Flood.see.Goals as goal

pub returns-then-index-gt0-clause-look : goal.returns-then-index-gt0-clause-look
returns-then-index-gt0-clause-look g c =
    let read : cursor_of (ground_of c.args.strip.now) c.args.self.now.cursors.items c.args.n ≡ c.index.result.now =
    cursor_read (ground_of c.args.strip.now) c.args.self.now.cursors.items
    (stale_long (ground_of c.args.strip.now) c.requires.strip.ranked c.args.self.now.queue.lists c.args.self.now.cursors.items
    c.args.self.now.earliest.items c.args.self.now.links.items c.args.at.rank c.args.at.pixel c.args.cursor c.requires.first c.requires.last
    c.requires.looking.turning c.requires.front) c.args.n c.index.result.now c.requires.next.inside c.index.ensures in
    let low : 0 < cursor_of (ground_of c.args.strip.now) (looking c.args.strip.now c.args.self.now c.args.at.pixel c.args.cursor).cursors c.args.n =
    seen_stale (ground_of c.args.strip.now) c.requires.strip.ranked c.args.self.now.queue.lists c.args.self.now.cursors.items
    c.args.self.now.earliest.items c.args.self.now.links.items c.args.at.rank c.args.at.pixel c.args.cursor c.requires.first c.requires.last
    c.requires.looking.turning c.requires.front c.args.n c.requires.next.inside (omega (arith, c.if-index-gt0.true)) in
    let after = look_still (ground_of c.args.strip.now) c.requires.strip.ranked c.args.self.now.queue.lists c.args.self.now.cursors.items
    c.args.self.now.earliest.items c.args.self.now.links.items c.args.at.rank c.args.at.pixel c.args.cursor c.requires.first c.requires.last
    c.requires.looking.turning c.requires.front c.args.queued.now c.args.looked.now c.tick.new.self
    (seen_already (ground_of c.args.strip.now)
    (looking c.args.strip.now c.args.self.now c.args.at.pixel c.args.cursor) c.requires.strip.ranked c.requires.looking.turning c.args.at.pixel
    c.requires.front.top (c.args.cursor - 1) c.args.n c.requires.next low)
    (see_around (ground_of c.args.strip.now)
    (looking c.args.strip.now c.args.self.now c.args.at.pixel c.args.cursor) c.requires.strip.ranked c.requires.looking.turning c.args.at.pixel
    c.requires.front.top (c.args.cursor - 1) c.args.n c.args.looked.now c.tick.new.self c.requires.next
    (c.requires.looking.turning.fair.seen c.args.n c.requires.next.inside low) c.tick.ensures) in
    record {
      after = record { items = c.requires.looking.items; queued = c.requires.looking.queued; turning = after.turning };
      step = after.step;
      less = after.less;
    }

pub returns-then-index-gt0-clause-next : goal.returns-then-index-gt0-clause-next
returns-then-index-gt0-clause-next g c =
    still_front (ground_of c.args.strip.now) c.requires.strip.ranked c.args.self.now.queue.lists c.args.self.now.cursors.items c.args.self.now.earliest.items
    c.args.self.now.links.items c.args.at.rank c.args.at.pixel c.args.cursor c.requires.first c.requires.last c.requires.looking.turning c.requires.front

pub returns-in_default-clause-look : goal.returns-in_default-clause-look
returns-in_default-clause-look g c =
    let none = none_undefined (ground_of c.args.strip.now)
    (looking c.args.strip.now c.args.self.now c.args.at.pixel c.args.cursor) c.requires.strip.ranked c.requires.looking.turning c.args.at.pixel
    c.requires.front.top (c.args.cursor - 1) c.args.n c.requires.next c.in_default.ensures in
    let after = look_still (ground_of c.args.strip.now) c.requires.strip.ranked c.args.self.now.queue.lists c.args.self.now.cursors.items
    c.args.self.now.earliest.items c.args.self.now.links.items c.args.at.rank c.args.at.pixel c.args.cursor c.requires.first c.requires.last
    c.requires.looking.turning c.requires.front c.args.queued.now c.args.looked.now c.args.looked.now
    (seen_none (ground_of c.args.strip.now) (looking c.args.strip.now c.args.self.now c.args.at.pixel c.args.cursor) c.requires.strip.ranked
    c.requires.looking.turning c.args.at.pixel c.requires.front.top (c.args.cursor - 1) none)
    (record { is = inl (refl, none) }) in
    record {
      after = record { items = c.requires.looking.items; queued = c.requires.looking.queued; turning = after.turning };
      step = after.step;
      less = after.less;
    }

pub returns-in_default-clause-next : goal.returns-in_default-clause-next
returns-in_default-clause-next g c =
    still_front (ground_of c.args.strip.now) c.requires.strip.ranked c.args.self.now.queue.lists c.args.self.now.cursors.items c.args.self.now.earliest.items
    c.args.self.now.links.items c.args.at.rank c.args.at.pixel c.args.cursor c.requires.first c.requires.last c.requires.looking.turning c.requires.front

pub push-requires-clause-free : goal.push-requires-clause-free
push-requires-clause-free g c =
    let read : cursor_of (ground_of c.args.strip.now) c.args.self.now.cursors.items c.args.n ≡ c.index.result.now =
    cursor_read (ground_of c.args.strip.now) c.args.self.now.cursors.items
    (stale_long (ground_of c.args.strip.now) c.requires.strip.ranked c.args.self.now.queue.lists c.args.self.now.cursors.items
    c.args.self.now.earliest.items c.args.self.now.links.items c.args.at.rank c.args.at.pixel c.args.cursor c.requires.first c.requires.last
    c.requires.looking.turning c.requires.front) c.args.n c.index.result.now c.requires.next.inside c.index.ensures in
    let unseen : cursor_of (ground_of c.args.strip.now) c.args.self.now.cursors.items c.args.n ≡ 0 = omega (arith, c.if-index-gt0.false) in
    nowhere_free c.args.self.now.queue (c.args.n - c.args.strip.now.first)
    (unseen_nowhere (ground_of c.args.strip.now)
    (looking c.args.strip.now c.args.self.now c.args.at.pixel c.args.cursor) c.requires.strip.ranked c.requires.looking.turning
    c.args.n c.requires.next.inside
    (unseen_stale (ground_of c.args.strip.now) c.requires.strip.ranked c.args.self.now.queue.lists c.args.self.now.cursors.items c.args.self.now.earliest.items
    c.args.self.now.links.items c.args.at.rank c.args.at.pixel c.args.cursor c.requires.first c.requires.last c.requires.looking.turning c.requires.front
    c.args.n c.requires.next.inside c.requires.looking.queued unseen))

pub returns-then-rank-at-clause-look : goal.returns-then-rank-at-clause-look
returns-then-rank-at-clause-look g c =
    let read : cursor_of (ground_of c.args.strip.now) c.args.self.now.cursors.items c.args.n ≡ c.index.result.now =
    cursor_read (ground_of c.args.strip.now) c.args.self.now.cursors.items
    (stale_long (ground_of c.args.strip.now) c.requires.strip.ranked c.args.self.now.queue.lists c.args.self.now.cursors.items
    c.args.self.now.earliest.items c.args.self.now.links.items c.args.at.rank c.args.at.pixel c.args.cursor c.requires.first c.requires.last
    c.requires.looking.turning c.requires.front) c.args.n c.index.result.now c.requires.next.inside c.index.ensures in
    let unseen : cursor_of (ground_of c.args.strip.now) c.args.self.now.cursors.items c.args.n ≡ 0 = omega (arith, c.if-index-gt0.false) in
    let after = look_pushed (ground_of c.args.strip.now) c.requires.strip.ranked c.args.self.now.queue.lists c.args.self.now.cursors.items
    c.args.self.now.earliest.items c.args.self.now.links.items c.args.at.rank c.args.at.pixel c.args.cursor c.requires.first c.requires.last
    c.requires.looking.turning c.requires.front c.args.n c.in-Some.rank c.requires.next c.requires.looking.queued unseen c.in-Some.ensures
    c.push.new.self.lists (pushed_lists c.args.self.now.queue c.push.new.self c.in-Some.rank (c.args.n - c.args.strip.now.first) c.push.ensures.appended)
    c.args.queued.now c.push.new.queued c.args.looked.now c.tick-2.new.self c.push.ensures.ticked c.tick-2.ensures in
    record {
      after = record {
        items = pushed_items c.args.self.now.queue c.push.new.self c.in-Some.rank (c.args.n - c.args.strip.now.first) c.push.ensures.appended
            ∙ c.requires.looking.items;
        queued =
            queued_after (ground_of c.args.strip.now) c.requires.strip.ranked c.args.self.now.queue.lists c.args.self.now.cursors.items
            c.args.self.now.earliest.items c.args.self.now.links.items c.args.at.rank c.args.at.pixel c.args.cursor c.requires.first c.requires.last
            c.requires.looking.turning c.requires.front c.args.n c.in-Some.rank c.requires.next c.requires.looking.queued unseen c.in-Some.ensures
            c.push.new.self.lists (pushed_lists c.args.self.now.queue c.push.new.self c.in-Some.rank
            (c.args.n - c.args.strip.now.first) c.push.ensures.appended);
        turning = after.turning;
      };
      step = after.step;
      less = after.less;
    }

pub returns-then-rank-at-clause-next : goal.returns-then-rank-at-clause-next
returns-then-rank-at-clause-next g c =
    let read : cursor_of (ground_of c.args.strip.now) c.args.self.now.cursors.items c.args.n ≡ c.index.result.now =
    cursor_read (ground_of c.args.strip.now) c.args.self.now.cursors.items
    (stale_long (ground_of c.args.strip.now) c.requires.strip.ranked c.args.self.now.queue.lists c.args.self.now.cursors.items
    c.args.self.now.earliest.items c.args.self.now.links.items c.args.at.rank c.args.at.pixel c.args.cursor c.requires.first c.requires.last
    c.requires.looking.turning c.requires.front) c.args.n c.index.result.now c.requires.next.inside c.index.ensures in
    let unseen : cursor_of (ground_of c.args.strip.now) c.args.self.now.cursors.items c.args.n ≡ 0 = omega (arith, c.if-index-gt0.false) in
    low_front (ground_of c.args.strip.now) c.requires.strip.ranked c.args.self.now.queue.lists c.args.self.now.cursors.items c.args.self.now.earliest.items
    c.args.self.now.links.items c.args.at.rank c.args.at.pixel c.args.cursor c.requires.first c.requires.last c.requires.looking.turning c.requires.front
    c.args.n c.in-Some.rank c.requires.next c.requires.looking.queued unseen c.in-Some.ensures c.push.new.self.lists
    (pushed_lists c.args.self.now.queue c.push.new.self c.in-Some.rank (c.args.n - c.args.strip.now.first) c.push.ensures.appended) c.if-rank-at.true

pub returns-clause-look : goal.returns-clause-look
returns-clause-look g c =
    let read : cursor_of (ground_of c.args.strip.now) c.args.self.now.cursors.items c.args.n ≡ c.index.result.now =
    cursor_read (ground_of c.args.strip.now) c.args.self.now.cursors.items
    (stale_long (ground_of c.args.strip.now) c.requires.strip.ranked c.args.self.now.queue.lists c.args.self.now.cursors.items
    c.args.self.now.earliest.items c.args.self.now.links.items c.args.at.rank c.args.at.pixel c.args.cursor c.requires.first c.requires.last
    c.requires.looking.turning c.requires.front) c.args.n c.index.result.now c.requires.next.inside c.index.ensures in
    let unseen : cursor_of (ground_of c.args.strip.now) c.args.self.now.cursors.items c.args.n ≡ 0 = omega (arith, c.if-index-gt0.false) in
    let after = look_pushed (ground_of c.args.strip.now) c.requires.strip.ranked c.args.self.now.queue.lists c.args.self.now.cursors.items
    c.args.self.now.earliest.items c.args.self.now.links.items c.args.at.rank c.args.at.pixel c.args.cursor c.requires.first c.requires.last
    c.requires.looking.turning c.requires.front c.args.n c.in-Some.rank c.requires.next c.requires.looking.queued unseen c.in-Some.ensures
    c.push.new.self.lists (pushed_lists c.args.self.now.queue c.push.new.self c.in-Some.rank (c.args.n - c.args.strip.now.first) c.push.ensures.appended)
    c.args.queued.now c.push.new.queued c.args.looked.now c.tick-2.new.self c.push.ensures.ticked c.tick-2.ensures in
    record {
      after = record {
        items = pushed_items c.args.self.now.queue c.push.new.self c.in-Some.rank (c.args.n - c.args.strip.now.first) c.push.ensures.appended
            ∙ c.requires.looking.items;
        queued =
            queued_after (ground_of c.args.strip.now) c.requires.strip.ranked c.args.self.now.queue.lists c.args.self.now.cursors.items
            c.args.self.now.earliest.items c.args.self.now.links.items c.args.at.rank c.args.at.pixel c.args.cursor c.requires.first c.requires.last
            c.requires.looking.turning c.requires.front c.args.n c.in-Some.rank c.requires.next c.requires.looking.queued unseen c.in-Some.ensures
            c.push.new.self.lists (pushed_lists c.args.self.now.queue c.push.new.self c.in-Some.rank
            (c.args.n - c.args.strip.now.first) c.push.ensures.appended);
        turning = after.turning;
      };
      step = after.step;
      less = after.less;
    }

pub returns-clause-next : goal.returns-clause-next
returns-clause-next g c =
    let read : cursor_of (ground_of c.args.strip.now) c.args.self.now.cursors.items c.args.n ≡ c.index.result.now =
    cursor_read (ground_of c.args.strip.now) c.args.self.now.cursors.items
    (stale_long (ground_of c.args.strip.now) c.requires.strip.ranked c.args.self.now.queue.lists c.args.self.now.cursors.items
    c.args.self.now.earliest.items c.args.self.now.links.items c.args.at.rank c.args.at.pixel c.args.cursor c.requires.first c.requires.last
    c.requires.looking.turning c.requires.front) c.args.n c.index.result.now c.requires.next.inside c.index.ensures in
    let unseen : cursor_of (ground_of c.args.strip.now) c.args.self.now.cursors.items c.args.n ≡ 0 = omega (arith, c.if-index-gt0.false) in
    high_front (ground_of c.args.strip.now) c.requires.strip.ranked c.args.self.now.queue.lists c.args.self.now.cursors.items c.args.self.now.earliest.items
    c.args.self.now.links.items c.args.at.rank c.args.at.pixel c.args.cursor c.requires.first c.requires.last c.requires.looking.turning c.requires.front
    c.args.n c.in-Some.rank c.requires.next c.requires.looking.queued unseen c.in-Some.ensures c.push.new.self.lists
    (pushed_lists c.args.self.now.queue c.push.new.self c.in-Some.rank (c.args.n - c.args.strip.now.first) c.push.ensures.appended) c.if-rank-at.false
