use Rattle.std.proofs.Common.{MatchOption}
use Rattle.level_queue.specs.Queue.{IsEmpty}
use Rattle.strip_flood.specs.Flood.{IsStep, work}
use Rattle.strip_flood.specs.Strips.{ground_of, IsBetweenTurns, IsCurrent}
use Rattle.strip_flood.proofs.flood.Flood.drain.Given as goal

abbrev pub invariant-loop-next : goal.invariant-loop-next
invariant-loop-next g l = record {
  between : IsBetweenTurns l.strip l.self;
  step : IsStep (ground_of l.strip) l.initial.self.cursors.items l.self.cursors.items l.initial.queued l.queued l.initial.looked l.looked;
  next : MatchOption l.next (IsEmpty l.self.queue.lists) (λ c. IsCurrent l.strip l.self c.rank c.pixel);
}

abbrev pub decreases-loop-next : goal.decreases-loop-next
decreases-loop-next g l = work l.self.cursors.items
