use Rattle.std.proofs.Common.{◌-◌, ◌<◌, length, arith}
use Rattle.std.proofs.lemmas.Option.{slice_get-get_or}
use Rattle.tile_join.proofs.Firsts.{zero_row}
use Rattle.tile_join.proofs.Listed.{clash_from, rising_all}
use Rattle.tile_join.proofs.placing.first_clash.Goals as goal

pub returns-then-placed-i : goal.returns-then-placed-i
returns-then-placed-i c =
    let l : c.loop-i.i - 1 < length c.args.placed.now = omega (arith, c.loop-i-test.true) in
    clash_from c.args.placed.now c.loop-i.i _ _ c.loop-i.auto.i
    (slice_get-get_or c.args.placed.now (c.loop-i.i - 1) (record { first = 0; row = zero_row }) l)
    (slice_get-get_or c.args.placed.now c.loop-i.i (record { first = 0; row = zero_row }) c.loop-i-test.true) c.if-placed-i.true

pub returns : goal.returns
returns c = rising_all c.args.placed.now c.loop-i.i c.loop-i.invariant c.loop-i-test.false
