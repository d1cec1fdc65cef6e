use Rattle.std.proofs.Common.{◌≡◌, ◌-◌, ◌<◌, ◌≤◌, ap, refl, set, slice_index, ◌∙◌, sym, subst, arith}
use Rattle.level_queue.specs.Queue.{Queue}
use Rattle.strip_flood.specs.Flood.{state_with, IsFair}
use Rattle.strip_flood.specs.Strips.{ground_of, state_of}
use Rattle.strip_flood.proofs.Retiring.{front_popped, retire_keep, retire_under, retire_over}
use Rattle.strip_flood.proofs.Retiring.{retire_above, retire_busy, retire_other, retire_kept, earliest_read}
use Rattle.strip_flood.proofs.flood.Flood.retire.Goals as goal

pub returns-then-kept-clause-items : goal.returns-then-kept-clause-items
returns-then-kept-clause-items c =
    ap (λ (q : Queue). q.items) c.pop_front.ensures.rest

pub returns-then-kept-clause-fair : goal.returns-then-kept-clause-fair
returns-then-kept-clause-fair c =
    let read : slice_index c.args.self.now.earliest.items c.args.at.rank ≡ c.index-kept.result.now =
    earliest_read (ground_of c.args.strip.now)
    (state_of c.args.self.now) c.requires.between.turning.fair c.args.at.rank c.args.at.pixel c.index-kept.result.now
    c.requires.turned.current c.index-kept.ensures in
    let popped = front_popped c.args.self.now.queue c.pop_front.new.self c.args.at.rank (c.args.at.pixel - c.args.strip.now.first) c.pop_front.result
    c.pop_front.ensures.once c.pop_front.ensures.first c.pop_front.ensures.rest c.requires.turned.current.front in
    retire_keep (ground_of c.args.strip.now) (state_of c.args.self.now) c.requires.strip.ranked c.requires.between.turning c.args.at.rank c.args.at.pixel
    c.pop_front.new.self.lists c.requires.turned.current.top c.requires.turned.current.rank popped c.requires.turned.turned (read ∙ c.if-kept.true)

pub returns-then-kept-clause-busy : goal.returns-then-kept-clause-busy
returns-then-kept-clause-busy c =
    let popped = front_popped c.args.self.now.queue c.pop_front.new.self c.args.at.rank (c.args.at.pixel - c.args.strip.now.first) c.pop_front.result
    c.pop_front.ensures.once c.pop_front.ensures.first c.pop_front.ensures.rest c.requires.turned.current.front in
    retire_busy (ground_of c.args.strip.now) (state_of c.args.self.now) c.requires.strip.ranked c.requires.between.turning c.args.at.rank c.args.at.pixel
    c.pop_front.new.self.lists c.requires.turned.current.top c.requires.turned.current.rank popped c.requires.turned.turned
    (set c.args.self.now.cursors.items (c.args.at.pixel - c.args.strip.now.first) 10) (set c.args.self.now.earliest.items c.args.at.rank c.args.at.pixel)
    c.args.self.now.links.items
    (retire_other (ground_of c.args.strip.now) (state_of c.args.self.now) c.requires.strip.ranked c.requires.between.turning c.args.at.rank c.args.at.pixel
    c.pop_front.new.self.lists c.requires.turned.current.top c.requires.turned.current.rank popped c.requires.turned.turned)

pub returns-then-kept-clause-kept : goal.returns-then-kept-clause-kept
returns-then-kept-clause-kept c =
    let popped = front_popped c.args.self.now.queue c.pop_front.new.self c.args.at.rank (c.args.at.pixel - c.args.strip.now.first) c.pop_front.result
    c.pop_front.ensures.once c.pop_front.ensures.first c.pop_front.ensures.rest c.requires.turned.current.front in
    retire_kept (ground_of c.args.strip.now) (state_of c.args.self.now) c.requires.strip.ranked c.requires.between.turning c.args.at.rank c.args.at.pixel
    c.pop_front.new.self.lists c.requires.turned.current.top c.requires.turned.current.rank popped c.requires.turned.turned

pub returns-then-kept-clause-above : goal.returns-then-kept-clause-above
returns-then-kept-clause-above c =
    let popped = front_popped c.args.self.now.queue c.pop_front.new.self c.args.at.rank (c.args.at.pixel - c.args.strip.now.first) c.pop_front.result
    c.pop_front.ensures.once c.pop_front.ensures.first c.pop_front.ensures.rest c.requires.turned.current.front in
    retire_above (ground_of c.args.strip.now) (state_of c.args.self.now) c.requires.strip.ranked c.requires.between.turning c.args.at.rank c.args.at.pixel
    c.pop_front.new.self.lists c.requires.turned.current.top c.requires.turned.current.rank popped c.requires.turned.turned

pub returns-then-kept-clause-cursors : goal.returns-then-kept-clause-cursors
returns-then-kept-clause-cursors c =
    refl

pub returns-then-kept-at-clause-items : goal.returns-then-kept-at-clause-items
returns-then-kept-at-clause-items c =
    ap (λ (q : Queue). q.items) c.pop_front.ensures.rest

pub returns-then-kept-at-clause-fair : goal.returns-then-kept-at-clause-fair
returns-then-kept-at-clause-fair c =
    let read : slice_index c.args.self.now.earliest.items c.args.at.rank ≡ c.index-kept.result.now =
    earliest_read (ground_of c.args.strip.now)
    (state_of c.args.self.now) c.requires.between.turning.fair c.args.at.rank c.args.at.pixel c.index-kept.result.now
    c.requires.turned.current c.index-kept.ensures in
    let popped = front_popped c.args.self.now.queue c.pop_front.new.self c.args.at.rank (c.args.at.pixel - c.args.strip.now.first) c.pop_front.result
    c.pop_front.ensures.once c.pop_front.ensures.first c.pop_front.ensures.rest c.requires.turned.current.front in
    let less : slice_index c.args.self.now.earliest.items c.args.at.rank < c.args.at.pixel = omega (arith, read, c.if-kept-at.true) in
    subst (λ e. IsFair (ground_of c.args.strip.now)
    (state_with c.pop_front.new.self.lists (set c.args.self.now.cursors.items (c.args.at.pixel - c.args.strip.now.first) 10) c.args.self.now.earliest.items
    (set c.args.self.now.links.items (c.args.at.pixel - c.args.strip.now.first) e))) read
    (retire_under (ground_of c.args.strip.now) (state_of c.args.self.now) c.requires.strip.ranked c.requires.between.turning c.args.at.rank c.args.at.pixel
    c.pop_front.new.self.lists c.requires.turned.current.top c.requires.turned.current.rank popped c.requires.turned.turned
    (λ e. c.if-kept.false (sym read ∙ e)) less)

pub returns-then-kept-at-clause-busy : goal.returns-then-kept-at-clause-busy
returns-then-kept-at-clause-busy c =
    let popped = front_popped c.args.self.now.queue c.pop_front.new.self c.args.at.rank (c.args.at.pixel - c.args.strip.now.first) c.pop_front.result
    c.pop_front.ensures.once c.pop_front.ensures.first c.pop_front.ensures.rest c.requires.turned.current.front in
    retire_busy (ground_of c.args.strip.now) (state_of c.args.self.now) c.requires.strip.ranked c.requires.between.turning c.args.at.rank c.args.at.pixel
    c.pop_front.new.self.lists c.requires.turned.current.top c.requires.turned.current.rank popped c.requires.turned.turned
    (set c.args.self.now.cursors.items (c.args.at.pixel - c.args.strip.now.first) 10) c.args.self.now.earliest.items
    (set c.args.self.now.links.items (c.args.at.pixel - c.args.strip.now.first) c.index-kept.result.now) (λ t ne. refl)

pub returns-then-kept-at-clause-kept : goal.returns-then-kept-at-clause-kept
returns-then-kept-at-clause-kept c =
    let read : slice_index c.args.self.now.earliest.items c.args.at.rank ≡ c.index-kept.result.now =
    earliest_read (ground_of c.args.strip.now)
    (state_of c.args.self.now) c.requires.between.turning.fair c.args.at.rank c.args.at.pixel c.index-kept.result.now
    c.requires.turned.current c.index-kept.ensures in
    λ e. c.if-kept.false (sym read ∙ e)

pub returns-then-kept-at-clause-above : goal.returns-then-kept-at-clause-above
returns-then-kept-at-clause-above c =
    let popped = front_popped c.args.self.now.queue c.pop_front.new.self c.args.at.rank (c.args.at.pixel - c.args.strip.now.first) c.pop_front.result
    c.pop_front.ensures.once c.pop_front.ensures.first c.pop_front.ensures.rest c.requires.turned.current.front in
    retire_above (ground_of c.args.strip.now) (state_of c.args.self.now) c.requires.strip.ranked c.requires.between.turning c.args.at.rank c.args.at.pixel
    c.pop_front.new.self.lists c.requires.turned.current.top c.requires.turned.current.rank popped c.requires.turned.turned

pub returns-then-kept-at-clause-cursors : goal.returns-then-kept-at-clause-cursors
returns-then-kept-at-clause-cursors c =
    refl

pub returns-clause-items : goal.returns-clause-items
returns-clause-items c =
    ap (λ (q : Queue). q.items) c.pop_front.ensures.rest

pub returns-clause-fair : goal.returns-clause-fair
returns-clause-fair c =
    let read : slice_index c.args.self.now.earliest.items c.args.at.rank ≡ c.index-kept.result.now =
    earliest_read (ground_of c.args.strip.now)
    (state_of c.args.self.now) c.requires.between.turning.fair c.args.at.rank c.args.at.pixel c.index-kept.result.now
    c.requires.turned.current c.index-kept.ensures in
    let popped = front_popped c.args.self.now.queue c.pop_front.new.self c.args.at.rank (c.args.at.pixel - c.args.strip.now.first) c.pop_front.result
    c.pop_front.ensures.once c.pop_front.ensures.first c.pop_front.ensures.rest c.requires.turned.current.front in
    let more : c.args.at.pixel ≤ slice_index c.args.self.now.earliest.items c.args.at.rank = omega (arith, read, c.if-kept-at.false) in
    subst (λ e. IsFair (ground_of c.args.strip.now)
    (state_with c.pop_front.new.self.lists (set c.args.self.now.cursors.items (c.args.at.pixel - c.args.strip.now.first) 10)
    (set c.args.self.now.earliest.items c.args.at.rank c.args.at.pixel)
    (set c.args.self.now.links.items (e - c.args.strip.now.first) c.args.at.pixel))) read
    (retire_over (ground_of c.args.strip.now) (state_of c.args.self.now) c.requires.strip.ranked c.requires.between.turning c.args.at.rank c.args.at.pixel
    c.pop_front.new.self.lists c.requires.turned.current.top c.requires.turned.current.rank popped c.requires.turned.turned
    (λ e. c.if-kept.false (sym read ∙ e)) more)

pub returns-clause-busy : goal.returns-clause-busy
returns-clause-busy c =
    let popped = front_popped c.args.self.now.queue c.pop_front.new.self c.args.at.rank (c.args.at.pixel - c.args.strip.now.first) c.pop_front.result
    c.pop_front.ensures.once c.pop_front.ensures.first c.pop_front.ensures.rest c.requires.turned.current.front in
    retire_busy (ground_of c.args.strip.now) (state_of c.args.self.now) c.requires.strip.ranked c.requires.between.turning c.args.at.rank c.args.at.pixel
    c.pop_front.new.self.lists c.requires.turned.current.top c.requires.turned.current.rank popped c.requires.turned.turned
    (set c.args.self.now.cursors.items (c.args.at.pixel - c.args.strip.now.first) 10) (set c.args.self.now.earliest.items c.args.at.rank c.args.at.pixel)
    (set c.args.self.now.links.items (c.index-kept.result.now - c.args.strip.now.first) c.args.at.pixel)
    (retire_other (ground_of c.args.strip.now) (state_of c.args.self.now) c.requires.strip.ranked c.requires.between.turning c.args.at.rank c.args.at.pixel
    c.pop_front.new.self.lists c.requires.turned.current.top c.requires.turned.current.rank popped c.requires.turned.turned)

pub returns-clause-kept : goal.returns-clause-kept
returns-clause-kept c =
    let popped = front_popped c.args.self.now.queue c.pop_front.new.self c.args.at.rank (c.args.at.pixel - c.args.strip.now.first) c.pop_front.result
    c.pop_front.ensures.once c.pop_front.ensures.first c.pop_front.ensures.rest c.requires.turned.current.front in
    retire_kept (ground_of c.args.strip.now) (state_of c.args.self.now) c.requires.strip.ranked c.requires.between.turning c.args.at.rank c.args.at.pixel
    c.pop_front.new.self.lists c.requires.turned.current.top c.requires.turned.current.rank popped c.requires.turned.turned

pub returns-clause-above : goal.returns-clause-above
returns-clause-above c =
    let popped = front_popped c.args.self.now.queue c.pop_front.new.self c.args.at.rank (c.args.at.pixel - c.args.strip.now.first) c.pop_front.result
    c.pop_front.ensures.once c.pop_front.ensures.first c.pop_front.ensures.rest c.requires.turned.current.front in
    retire_above (ground_of c.args.strip.now) (state_of c.args.self.now) c.requires.strip.ranked c.requires.between.turning c.args.at.rank c.args.at.pixel
    c.pop_front.new.self.lists c.requires.turned.current.top c.requires.turned.current.rank popped c.requires.turned.turned

pub returns-clause-cursors : goal.returns-clause-cursors
returns-clause-cursors c =
    refl
