use Rattle.std.proofs.Common.{arith}
use Rattle.tile_join.proofs.Cores.{marked_none, marked_more, marked_met, marked_all}
use Rattle.tile_join.proofs.marking.mark_core.Goals as goal

pub loop-q-init : goal.loop-q-init
loop-q-init c = marked_none c.args.whole.width c.args.core.now c.args.marks.now

pub loop-q-preserved : goal.loop-q-preserved
loop-q-preserved c =
    marked_more c.args.whole c.args.core.now c.loop-q.q c.in_whole-p.result c.args.marks.now c.loop-q.marks c.loop-q.invariant c.in_whole-p.ensures.place
    (omega (arith, c.in_whole-p.ensures.within, c.loop-q.auto.marks, c.requires.one_each)) c.if-marks-p-ne0.false

pub returns-then-marks-p-ne0-clause-met : goal.returns-then-marks-p-ne0-clause-met
returns-then-marks-p-ne0-clause-met c = λ e.
    marked_met c.args.whole c.args.core.now c.loop-q.q c.in_whole-p.result c.args.marks.now c.loop-q.marks c.requires.inside
    (omega (arith, c.loop-q-test.true, c.pixels-q-end.ensures.product)) c.loop-q.invariant c.in_whole-p.ensures.place c.if-marks-p-ne0.true

pub returns-clause-marked : goal.returns-clause-marked
returns-clause-marked c = λ e.
    marked_all c.args.whole c.args.core.now c.loop-q.q c.args.marks.now c.loop-q.marks c.requires.inside
    (omega (arith, c.loop-q-test.false, c.loop-q.auto.q-end, c.pixels-q-end.ensures.product)) c.loop-q.invariant
