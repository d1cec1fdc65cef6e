use Rattle.std.proofs.Common.{◌+◌, ◌<◌, ◌≤◌, length, arith, ◌∙◌}
use Rattle.comp_tree.specs.Limits.{most_pixels}
use Rattle.strip_flood.specs.Flood.{IsInQueue}
use Rattle.strip_flood.specs.Strips.{ground_of, state_of}
use Rattle.strip_flood.proofs.Retiring.{still_turning, front_queued}
use Rattle.strip_flood.proofs.Looking.{front_current}
use Rattle.strip_flood.proofs.flood.Flood.finish.Goals as goal

pub overflow_add-result : goal.overflow_add-result
overflow_add-result c =
    let q : IsInQueue (ground_of c.args.strip.now) c.retire.new.self.cursors.items (c.args.strip.now.first + c.in-Some.item) =
    front_queued (ground_of c.args.strip.now) (state_of c.retire.new.self) c.retire.ensures.fair c.args.at.rank c.in-Some.item c.in-Some.ensures.first in
    let l : c.args.strip.now.first + c.in-Some.item < c.args.strip.now.first + length c.args.strip.now.ranks.items = q.inside.high in
    let few : c.args.strip.now.first + length c.args.strip.now.ranks.items ≤ most_pixels = c.requires.strip.few in omega arith

pub returns-in-Some-clause-between : goal.returns-in-Some-clause-between
returns-in-Some-clause-between c = record {
  items = c.retire.ensures.items ∙ c.requires.between.items;
  turning = still_turning (ground_of c.args.strip.now)
      (state_of c.retire.new.self) c.args.at.rank c.in-Some.item c.retire.ensures.fair c.retire.ensures.busy c.in-Some.ensures.first;
}

pub returns-in-Some-clause-next : goal.returns-in-Some-clause-next
returns-in-Some-clause-next c = front_current (ground_of c.args.strip.now)
    (state_of c.retire.new.self) c.retire.ensures.fair c.args.at.rank c.in-Some.item c.retire.ensures.above c.in-Some.ensures.first

pub retire-requires-clause-strip : goal.retire-requires-clause-strip
retire-requires-clause-strip c = c.requires.strip

pub retire-requires-clause-between : goal.retire-requires-clause-between
retire-requires-clause-between c = c.requires.between

pub retire-requires-clause-turned : goal.retire-requires-clause-turned
retire-requires-clause-turned c = c.requires.turned
