use Rattle.std.proofs.Common.{◌≡◌, ◌+◌, ◌-◌, ◌<◌, ◌≤◌, length, set, sym, subst, ◌∙◌, arith, length-set, get_or-set_same}
use Rattle.std.proofs.lemmas.Nat.Bits.{shr_and_one}
use Rattle.strip_flood.specs.Flood.{state_with, direction_count, cell, cursor_of, work, IsStep, IsTurning, IsAtFront, IsNeighbour, HasCell}
use Rattle.strip_flood.specs.Strips.{ground_of, looking}
use Rattle.strip_flood.proofs.Flow.{cursor_read}
use Rattle.strip_flood.proofs.Looking.{same_cursors}
use Rattle.strip_flood.proofs.Counting.{step_same, step_trans}
use Rattle.strip_flood.proofs.Rounds.{skip}
use Rattle.strip_flood.proofs.flood.Flood.look_around.Goals as goal
use Rattle.strip_flood.proofs.flood.Flood.look_around.Goals.{then-inside-k-eq1+in_default, else-inside-k-eq1}

pub loop-k-init : goal.loop-k-init
loop-k-init g c =
    let here : cursor_of (ground_of c.args.strip.now) c.args.self.now.cursors.items c.args.at.pixel ≡ c.index.result.now =
    cursor_read (ground_of c.args.strip.now) c.args.self.now.cursors.items c.requires.between.turning.fair.cursors_length c.args.at.pixel
    c.index.result.now c.requires.front.top.queued.inside c.index.ensures in
    let low : 0 < cursor_of (ground_of c.args.strip.now) c.args.self.now.cursors.items c.args.at.pixel = c.requires.front.top.queued.low in
    let high : cursor_of (ground_of c.args.strip.now) c.args.self.now.cursors.items c.args.at.pixel ≤ direction_count c.args.strip.now.connect + 1 =
    c.requires.between.turning.fair.turning c.args.at.pixel c.requires.front.top.queued.inside c.requires.front.top.queued.high in
    let from : c.from-k.result ≡ c.index.result.now - 1 = c.from-k.ensures in
    let read : cursor_of (ground_of c.args.strip.now) c.args.self.now.cursors.items c.args.at.pixel ≡ c.from-k.result + 1 = omega arith in
    let same : set c.args.self.now.cursors.items (c.args.at.pixel - c.args.strip.now.first) (c.from-k.result + 1) ≡ c.args.self.now.cursors.items =
    same_cursors (ground_of c.args.strip.now) c.args.self.now.cursors.items c.args.at.pixel (c.from-k.result + 1) read in
    record {
      around = record {
        items = c.requires.between.items;
        queued = low;
        turning = subst (λ xs. IsTurning (ground_of c.args.strip.now)
            (state_with c.args.self.now.queue.lists xs c.args.self.now.earliest.items c.args.self.now.links.items)) (sym same) c.requires.between.turning;
      };
      front = subst (λ xs. IsAtFront (ground_of c.args.strip.now)
          (state_with c.args.self.now.queue.lists xs c.args.self.now.earliest.items c.args.self.now.links.items) c.args.at.rank c.args.at.pixel)
          (sym same) c.requires.front;
      step = subst
          (λ xs. IsStep (ground_of c.args.strip.now) c.args.self.now.cursors.items xs c.args.queued.now c.args.queued.now c.args.looked.now c.args.looked.now)
          (sym same) (step_same (ground_of c.args.strip.now) c.args.self.now.cursors.items c.args.queued.now c.args.looked.now);
      first = omega arith;
      last = omega arith;
    }

pub neighbour-n-requires-clause-there : goal.neighbour-n-requires-clause-there
neighbour-n-requires-clause-there g c =
    let all : c.directions-count.result ≡ direction_count c.args.strip.now.connect = c.directions-count.ensures.all in
    c.directions_inside-inside.ensures.there c.loop-k.k (omega (arith, c.loop-k-test.true))
    (sym (shr_and_one c.directions_inside-inside.result c.loop-k.k) ∙ c.if-inside-k-eq1.true)

pub see-requires-clause-next : goal.see-requires-clause-next
see-requires-clause-next g c =
    let at : c.loop-k.k ≡ c.loop-k.k + 1 - 1 = omega arith in
    subst (λ j. IsNeighbour c.args.strip.now.connect c.args.strip.now.width c.args.strip.now.first (length c.args.strip.now.ranks.items) c.args.at.pixel j
    c.neighbour-n.result) at c.neighbour-n.ensures

pub returns-in-Some-clause-step : goal.returns-in-Some-clause-step
returns-in-Some-clause-step g c = step_trans (ground_of c.args.strip.now) c.args.self.now.cursors.items
    (looking c.args.strip.now c.loop-k.self c.args.at.pixel (c.loop-k.k + 1)).cursors
    (looking c.args.strip.now c.see.new.self c.args.at.pixel (c.loop-k.k + 1 + 1)).cursors c.args.queued.now c.loop-k.queued c.see.new.queued
    c.args.looked.now c.loop-k.looked c.see.new.looked c.loop-k.invariant.step c.see.ensures.look.step

pub loop-k-preserved : goal.loop-k-preserved
loop-k-preserved g c =
    let all : c.directions-count.result ≡ direction_count c.args.strip.now.connect = c.directions-count.ensures.all in
    let more : c.loop-k.k + 1 ≤ direction_count c.args.strip.now.connect = omega (arith, c.loop-k-test.true) in
    let at : c.loop-k.k + 1 - 1 ≡ c.loop-k.k = omega arith in
    elim c.if-inside-k-eq1.branch [
      | then-inside-k-eq1+in_default w ↦ rw (w.self-is, w.queued-is, w.looked-is) (record {
        around = w.see.ensures.look.after;
        front = w.in_default.ensures.next;
        step = step_trans (ground_of c.args.strip.now) c.args.self.now.cursors.items
            (looking c.args.strip.now c.loop-k.self c.args.at.pixel (c.loop-k.k + 1)).cursors
            (looking c.args.strip.now w.see.new.self c.args.at.pixel (c.loop-k.k + 1 + 1)).cursors c.args.queued.now c.loop-k.queued
            w.see.new.queued c.args.looked.now c.loop-k.looked w.see.new.looked c.loop-k.invariant.step w.see.ensures.look.step;
        first = omega arith;
        last = omega arith;
      })
      | else-inside-k-eq1 w ↦ rw (w.self-is, w.queued-is, w.looked-is) (skip c.args.strip.now c.requires.strip c.args.self.now c.loop-k.self
          c.args.at.rank c.args.at.pixel c.args.queued.now c.loop-k.queued c.args.looked.now c.loop-k.looked (c.loop-k.k + 1)
          c.loop-k.invariant more (λ there. w.if-inside-k-eq1.false
          (shr_and_one c.directions_inside-inside.result c.loop-k.k
          ∙ c.directions_inside-inside.ensures.all c.loop-k.k (omega arith)
          (subst (λ j. HasCell c.args.strip.now.width c.args.strip.now.first (length c.args.strip.now.ranks.items) c.args.at.pixel
          (cell c.args.strip.now.connect j)) at there))))
    ]

pub overflow_sub-here : goal.overflow_sub-here
overflow_sub-here g c = c.requires.front.top.queued.inside.low

pub index-requires : goal.index-requires
index-requires g c =
    let low : c.args.strip.now.first ≤ c.args.at.pixel = c.requires.front.top.queued.inside.low in
    let high : c.args.at.pixel < c.args.strip.now.first + length c.args.strip.now.ranks.items = c.requires.front.top.queued.inside.high in
    let same : length c.args.self.now.cursors.items ≡ length c.args.strip.now.ranks.items = c.requires.between.turning.fair.cursors_length in
    omega (arith, low, high, same, c.args.self.now.cursors.ok.0)

pub neighbour-n-requires-clause-strip : goal.neighbour-n-requires-clause-strip
neighbour-n-requires-clause-strip g c = c.requires.strip

pub see-requires-clause-strip : goal.see-requires-clause-strip
see-requires-clause-strip g c = c.requires.strip

pub see-requires-clause-looking : goal.see-requires-clause-looking
see-requires-clause-looking g c = c.loop-k.invariant.around

pub see-requires-clause-front : goal.see-requires-clause-front
see-requires-clause-front g c = c.loop-k.invariant.front

pub index_mut-requires : goal.index_mut-requires
index_mut-requires g c =
    let low : c.args.strip.now.first ≤ c.args.at.pixel = c.requires.front.top.queued.inside.low in
    let high : c.args.at.pixel < c.args.strip.now.first + length c.args.strip.now.ranks.items = c.requires.front.top.queued.inside.high in
    let same : length (set c.see.new.self.cursors.items (c.args.at.pixel - c.args.strip.now.first) (c.loop-k.k + 1 + 1)) ≡ length c.args.strip.now.ranks.items =
    c.see.ensures.look.after.turning.fair.cursors_length in
    let kept : length (set c.see.new.self.cursors.items (c.args.at.pixel - c.args.strip.now.first) (c.loop-k.k + 1 + 1)) ≡ length c.see.new.self.cursors.items =
    length-set _ _ _ in
    omega (arith, low, high, same, kept, c.see.new.self.cursors.ok.0)

pub returns-in-Some-clause-between : goal.returns-in-Some-clause-between
returns-in-Some-clause-between g c = record { items = c.see.ensures.look.after.items; turning = c.see.ensures.look.after.turning }

pub returns-in-Some-clause-work : goal.returns-in-Some-clause-work
returns-in-Some-clause-work g c =
    let less : work (set c.see.new.self.cursors.items (c.args.at.pixel - c.args.strip.now.first) (c.loop-k.k + 1 + 1))
    < work (set c.loop-k.self.cursors.items (c.args.at.pixel - c.args.strip.now.first) (c.loop-k.k + 1)) =
    c.see.ensures.look.less in
    let most : work (set c.loop-k.self.cursors.items (c.args.at.pixel - c.args.strip.now.first) (c.loop-k.k + 1)) ≤ work c.args.self.now.cursors.items =
    c.loop-k.invariant.step.work in
    omega (arith, less, most)

pub returns-in-Some-clause-next : goal.returns-in-Some-clause-next
returns-in-Some-clause-next g c = c.in-Some.ensures.next

pub index_mut-requires-2 : goal.index_mut-requires-2
index_mut-requires-2 g c =
    let low : c.args.strip.now.first ≤ c.args.at.pixel = c.requires.front.top.queued.inside.low in
    let high : c.args.at.pixel < c.args.strip.now.first + length c.args.strip.now.ranks.items = c.requires.front.top.queued.inside.high in
    let same : length (set c.loop-k.self.cursors.items (c.args.at.pixel - c.args.strip.now.first) (c.loop-k.k + 1)) ≡ length c.args.strip.now.ranks.items =
    c.loop-k.invariant.around.turning.fair.cursors_length in
    let kept : length (set c.loop-k.self.cursors.items (c.args.at.pixel - c.args.strip.now.first) (c.loop-k.k + 1)) ≡ length c.loop-k.self.cursors.items =
    length-set _ _ _ in
    omega (arith, low, high, same, kept, c.loop-k.self.cursors.ok.0)

pub returns-clause-between : goal.returns-clause-between
returns-clause-between g c = record { items = c.loop-k.invariant.around.items; turning = c.loop-k.invariant.around.turning }

pub returns-clause-step : goal.returns-clause-step
returns-clause-step g c = c.loop-k.invariant.step

pub returns-clause-next : goal.returns-clause-next
returns-clause-next g c =
    let all : c.directions-count.result ≡ direction_count c.args.strip.now.connect = c.directions-count.ensures.all in
    let low : c.args.strip.now.first ≤ c.args.at.pixel = c.requires.front.top.queued.inside.low in
    let high : c.args.at.pixel < c.args.strip.now.first + length c.args.strip.now.ranks.items = c.requires.front.top.queued.inside.high in
    let same : length (set c.loop-k.self.cursors.items (c.args.at.pixel - c.args.strip.now.first) (c.loop-k.k + 1)) ≡ length c.args.strip.now.ranks.items =
    c.loop-k.invariant.around.turning.fair.cursors_length in
    let kept : length (set c.loop-k.self.cursors.items (c.args.at.pixel - c.args.strip.now.first) (c.loop-k.k + 1)) ≡ length c.loop-k.self.cursors.items =
    length-set _ _ _ in
    let most : c.loop-k.k + 1 ≤ direction_count c.args.strip.now.connect + 1 = c.loop-k.invariant.last in
    let end : c.loop-k.k + 1 ≡ direction_count c.args.strip.now.connect + 1 = omega (arith, all, most, c.loop-k-test.false) in
    record {
      current = c.loop-k.invariant.front;
      turned =
          get_or-set_same c.loop-k.self.cursors.items (c.args.at.pixel - c.args.strip.now.first) (c.loop-k.k + 1) 0
          (omega (arith, low, high, same, kept))
          ∙ end;
    }
