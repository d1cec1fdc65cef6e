use Rattle.std.proofs.Common.{◌<◌, arith}
use Rattle.strip_crew.specs.Run.{strips}
use Rattle.strip_crew.proofs.Working.{shrinks}
use Rattle.strip_crew.proofs.claiming.worker.Goals as goal

pub loop-seat-smaller : goal.loop-seat-smaller
loop-seat-smaller g c =
    let near : c.claim-strip.result < strips c.loop-seat.seat.me.0.of = grind arith in
    let here : c.claim-strip.result < strips c.args.seat.me.0.of = grind arith in
    shrinks _ _ c.loop-seat.seat.me c.claim-strip.new.seat.me c.flood.new.seat.me c.give.new.seat.me here
    (c.claim-strip.ensures.strip near) c.flood.ensures.same.2 c.give.ensures.given
