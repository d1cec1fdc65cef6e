use Rattle.std.proofs.Common.{ℕ, ◌<◌, length}
use Rattle.strip_flood.specs.Flood.{IsStep, IsOf, rank_of, cursor_of}
use Rattle.level_queue.specs.Queue.{IsEmpty}
use Rattle.strip_flood.specs.Strips.{ground_of, IsBetweenTurns}
use Rattle.strip_flood.proofs.flood.Flood.run.Given as goal

abbrev pub invariant-loop-p : goal.invariant-loop-p
invariant-loop-p g l = record {
  between : IsBetweenTurns l.strip l.self;
  empty : IsEmpty l.self.queue.lists;
  step : IsStep (ground_of l.strip) l.initial.self.cursors.items l.self.cursors.items l.initial.queued l.queued l.initial.looked l.looked;
  seen : (x : ℕ) → IsOf (ground_of l.strip) x → x < l.p → rank_of (ground_of l.strip) x < length l.strip.levels.items
      → 0 < cursor_of (ground_of l.strip) l.self.cursors.items x;
}
