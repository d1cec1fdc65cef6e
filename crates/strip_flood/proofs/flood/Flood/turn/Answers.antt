use Rattle.std.proofs.Common.{◌-◌, ◌<◌, ◌≤◌, set, sym, subst, arith}
use Rattle.strip_flood.specs.Flood.{IsStep, IsAtFront, work}
use Rattle.strip_flood.specs.Strips.{ground_of, state_of}
use Rattle.strip_flood.proofs.Counting.{step_done, step_less, step_trans}
use Rattle.strip_flood.proofs.flood.Flood.turn.Goals as goal

pub returns-clause-step : goal.returns-clause-step
returns-clause-step g c =
    let at : IsAtFront (ground_of c.args.strip.now) (state_of c.look_around.new.self) c.args.at.rank c.args.at.pixel = c.in_default.ensures.next.current in
    step_trans (ground_of c.args.strip.now) c.args.self.now.cursors.items c.look_around.new.self.cursors.items c.finish.new.self.cursors.items
    c.args.queued.now c.look_around.new.queued c.look_around.new.queued c.args.looked.now c.look_around.new.looked c.look_around.new.looked
    c.look_around.ensures.step
    (subst (λ n. IsStep (ground_of c.args.strip.now) c.look_around.new.self.cursors.items n c.look_around.new.queued c.look_around.new.queued
    c.look_around.new.looked c.look_around.new.looked)
    (sym {b = set c.look_around.new.self.cursors.items (c.args.at.pixel - c.args.strip.now.first) 10} c.finish.ensures.cursors)
    (step_done (ground_of c.args.strip.now) c.look_around.new.self.cursors.items c.look_around.ensures.between.turning.fair.cursors_length c.args.at.pixel 10
    at.top.queued.inside c.look_around.new.queued c.look_around.new.looked c.requires.strip.ranked.wide c.in_default.ensures.next.turned
    (let high = at.top.queued.high in omega arith)))

pub returns-clause-work : goal.returns-clause-work
returns-clause-work g c =
    let at : IsAtFront (ground_of c.args.strip.now) (state_of c.look_around.new.self) c.args.at.rank c.args.at.pixel = c.in_default.ensures.next.current in
    let less : work (set c.look_around.new.self.cursors.items (c.args.at.pixel - c.args.strip.now.first) 10) < work c.look_around.new.self.cursors.items
    = step_less (ground_of c.args.strip.now) c.look_around.new.self.cursors.items c.look_around.ensures.between.turning.fair.cursors_length c.args.at.pixel 10
    at.top.queued.inside at.top.queued.high (omega arith) in
    let before : work c.look_around.new.self.cursors.items ≤ work c.args.self.now.cursors.items = c.look_around.ensures.step.work in
    subst (λ n. work n < work c.args.self.now.cursors.items)
    (sym {b = set c.look_around.new.self.cursors.items (c.args.at.pixel - c.args.strip.now.first) 10} c.finish.ensures.cursors) (omega arith)

pub look_around-requires-clause-strip : goal.look_around-requires-clause-strip
look_around-requires-clause-strip g c = c.requires.strip

pub look_around-requires-clause-between : goal.look_around-requires-clause-between
look_around-requires-clause-between g c = c.requires.between

pub look_around-requires-clause-front : goal.look_around-requires-clause-front
look_around-requires-clause-front g c = c.requires.front
