use Rattle.strip_flood.specs.Strips.{ground_of}
use Rattle.strip_flood.proofs.Counting.{step_trans}
use Rattle.strip_flood.proofs.flood.Flood.drain.Goals as goal

pub loop-next-preserved : goal.loop-next-preserved
loop-next-preserved g c = record {
  between = c.turn-next.ensures.between;
  step = step_trans (ground_of c.args.strip.now) c.args.self.now.cursors.items c.loop-next.self.cursors.items c.turn-next.new.self.cursors.items
      c.args.queued.now c.loop-next.queued c.turn-next.new.queued c.args.looked.now c.loop-next.looked c.turn-next.new.looked c.loop-next.invariant.step
      c.turn-next.ensures.step;
  next = c.turn-next.ensures.next;
}
