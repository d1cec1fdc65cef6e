use Rattle.std.proofs.Common.{◌≡◌, ◌-◌}
use Rattle.strip_crew.specs.Run.{strips}
use Rattle.strip_crew.specs.Claims.{above_all}
use Rattle.strip_crew.specs.Workers.{IsIdle}
use Rattle.strip_crew.proofs.claiming.worker.Given as goal

abbrev pub invariant-loop-seat : goal.invariant-loop-seat
invariant-loop-seat g l = (l.seat.table_id ≡ l.initial.seat.table_id) × (l.seat.id ≡ l.initial.seat.id) × IsIdle l.initial.seat.me.0.of l.seat.me

abbrev pub decreases-loop-seat : goal.decreases-loop-seat
decreases-loop-seat g l = strips l.initial.seat.me.0.of - above_all l.seat.me.0.claim.claimed
