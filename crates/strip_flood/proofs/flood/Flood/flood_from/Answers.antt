use Rattle.std.proofs.Common.{◌≡◌, ◌-◌, ◌<◌, set, sym, subst, ◌∙◌, arith}
use Rattle.strip_flood.specs.Flood.{cursor_of}
use Rattle.strip_flood.specs.Strips.{ground_of, state_of}
use Rattle.strip_flood.proofs.Flow.{cursor_new, cursor_read}
use Rattle.strip_flood.proofs.Seeing.{start_pushed}
use Rattle.strip_flood.proofs.Looking.{start_front}
use Rattle.strip_flood.proofs.Counting.{step_push, step_trans}
use Rattle.strip_flood.proofs.Adapting.{pushed_lists, pushed_items}
use Rattle.strip_flood.proofs.flood.Flood.flood_from.Goals as goal

pub drain-requires-clause-between : goal.drain-requires-clause-between
drain-requires-clause-between g c =
    let read : cursor_of (ground_of c.args.strip.now) c.args.self.now.cursors.items c.args.p ≡ c.index.result.now =
    cursor_read (ground_of c.args.strip.now) c.args.self.now.cursors.items c.requires.between.turning.fair.cursors_length c.args.p c.index.result.now
    c.requires.inside c.index.ensures in
    record {
      items = pushed_items c.args.self.now.queue c.push.new.self c.in-Some.rank (c.args.p - c.args.strip.now.first) c.push.ensures.appended
          ∙ c.requires.between.items;
      turning = start_pushed (ground_of c.args.strip.now)
          (state_of c.args.self.now) c.requires.strip.ranked c.requires.between.turning c.args.p c.in-Some.rank c.requires.inside c.in-Some.ensures
          (omega (arith, c.if-index-gt0.false)) c.requires.empty c.push.new.self.lists
          (pushed_lists c.args.self.now.queue c.push.new.self c.in-Some.rank (c.args.p - c.args.strip.now.first) c.push.ensures.appended);
    }

pub returns-clause-step : goal.returns-clause-step
returns-clause-step g c =
    let read : cursor_of (ground_of c.args.strip.now) c.args.self.now.cursors.items c.args.p ≡ c.index.result.now =
    cursor_read (ground_of c.args.strip.now) c.args.self.now.cursors.items c.requires.between.turning.fair.cursors_length c.args.p c.index.result.now
    c.requires.inside c.index.ensures in
    step_trans (ground_of c.args.strip.now) c.args.self.now.cursors.items
    (set c.args.self.now.cursors.items (c.args.p - c.args.strip.now.first) 1) c.drain.new.self.cursors.items c.args.queued.now c.push.new.queued
    c.drain.new.queued c.args.looked.now c.args.looked.now c.drain.new.looked
    (step_push (ground_of c.args.strip.now) c.args.self.now.cursors.items c.requires.between.turning.fair.cursors_length c.args.p 1 c.requires.inside
    c.args.queued.now c.push.new.queued c.args.looked.now (omega (arith, c.if-index-gt0.false)) (omega arith) c.push.ensures.ticked) c.drain.ensures.step

pub returns-clause-seen : goal.returns-clause-seen
returns-clause-seen g c = λ low. c.drain.ensures.step.seen c.args.p c.requires.inside
    (subst (λ n. 0 < n)
    (sym (cursor_new (ground_of c.args.strip.now) c.args.self.now.cursors.items c.requires.between.turning.fair.cursors_length c.args.p 1
    c.requires.inside)) (omega arith))

pub drain-requires-clause-front : goal.drain-requires-clause-front
drain-requires-clause-front g c = start_front (ground_of c.args.strip.now)
    (state_of c.args.self.now) c.requires.between.turning.fair c.args.p c.in-Some.rank c.requires.inside c.in-Some.ensures c.requires.empty.empty
    c.push.new.self.lists (pushed_lists c.args.self.now.queue c.push.new.self c.in-Some.rank (c.args.p - c.args.strip.now.first) c.push.ensures.appended)
