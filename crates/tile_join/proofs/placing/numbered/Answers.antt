use Rattle.std.proofs.Common.{get_or, ◌+◌, sym, ◌∙◌, arith}
use Rattle.std.proofs.lemmas.Int.{ints}
use Rattle.std.proofs.lemmas.Option.{slice_get-get_or}
use Rattle.tile_join.proofs.Firsts.{zero_row, renumbered}
use Rattle.tile_join.proofs.Numbers.{numbered_none}
use Rattle.tile_join.proofs.Listed.{row_numbered}
use Rattle.tile_join.proofs.placing.numbered.Goals as goal

pub loop-i-init : goal.loop-i-init
loop-i-init c = c.in_ok-rows.ensures.items ∙ sym numbered_none

pub loop-i-preserved : goal.loop-i-preserved
loop-i-preserved c =
    row_numbered c.args.placed.now c.loop-i.i _ _ c.loop-i.rows.items c.push.new.self.items c.loop-i.invariant
    (slice_get-get_or c.args.placed.now c.loop-i.i (record { first = 0; row = zero_row }) c.loop-i-test.true)
    (renumbered (get_or c.args.placed.now c.loop-i.i (record { first = 0; row = zero_row })).row _ (c.loop-i.i + 1) (omega (arith, ints))) c.in_ok-push.ensures.items
