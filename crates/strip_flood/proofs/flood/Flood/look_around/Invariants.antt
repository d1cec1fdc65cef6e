use Rattle.std.proofs.Common.{◌+◌, ◌-◌}
use Rattle.strip_flood.specs.Flood.{direction_count}
use Rattle.strip_flood.proofs.Rounds.{IsOn}
use Rattle.strip_flood.proofs.flood.Flood.look_around.Given as goal

abbrev pub invariant-loop-k : goal.invariant-loop-k
invariant-loop-k g l = IsOn l.strip l.initial.self l.self l.at.rank l.at.pixel (l.k + 1) l.initial.queued l.queued l.initial.looked l.looked

abbrev pub decreases-loop-k : goal.decreases-loop-k
decreases-loop-k g l = direction_count l.strip.connect - l.k
