use Rattle.std.proofs.Common.{ℕ, get_or, ◌∙◌, ap, arith}
use Rattle.tile_join.specs.Places.{number_or}
use Rattle.tile_join.proofs.Writes.{written_none, written_more, written_all}
use Rattle.tile_join.proofs.writing.write_numbers.Goals as goal

pub loop-q-init : goal.loop-q-init
loop-q-init c = written_none c.args.whole.width c.args.tile.now c.args.table.now c.args.map.now

pub loop-q-preserved : goal.loop-q-preserved
loop-q-preserved c =
    written_more c.args.whole c.args.tile.now c.args.table.now c.loop-q.q c.in_whole-p.result c.number_or.result c.args.map.now c.loop-q.map
    c.requires.inside c.loop-q.invariant c.in_whole-p.ensures.place
    (omega (arith, c.in_whole-p.ensures.within, c.loop-q.auto.map, c.requires.one_each))
    (c.number_or.ensures ∙ ap (λ (n : ℕ). number_or (get_or c.loop-q.map c.in_whole-p.result 0) n) c.number_at-number.ensures)

pub returns : goal.returns
returns c =
    written_all c.args.whole c.args.tile.now c.args.table.now c.loop-q.q c.args.map.now c.loop-q.map c.requires.inside
    (omega (arith, c.loop-q-test.false, c.loop-q.auto.q-end, c.pixels-q-end.ensures.product)) c.loop-q.invariant
