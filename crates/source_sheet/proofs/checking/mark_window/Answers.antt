use Rattle.std.proofs.Common.{◌≤◌, ◌+◌, ◌*◌, refl, arith}
use Rattle.source_sheet.specs.Laid.{window_at}
use Rattle.source_sheet.proofs.Apart.{rows_none, rows_more, rows_at, row_inside}
use Rattle.source_sheet.proofs.checking.mark_window.Goals as goal

pub mark_between-requires-clause-inside : goal.mark_between-requires-clause-inside
mark_between-requires-clause-inside c =
    let l : c.pixel_at-first.result + c.args.shape.width ≤ c.args.whole.width * c.args.whole.height =
    row_inside c.args.whole (window_at c.args.left c.args.top c.args.shape) c.loop-row.row c.pixel_at-first.result (c.pixel_at-first.result + c.args.shape.width)
    c.requires.inside (omega (arith, c.loop-row-test.true)) c.pixel_at-first.ensures.is refl in
    omega (arith, c.requires.one_each, c.loop-row.invariant.same_length)

pub loop-row-init : goal.loop-row-init
loop-row-init c = rows_none c.args.whole.width (window_at c.args.left c.args.top c.args.shape) c.args.marks.now

pub loop-row-preserved : goal.loop-row-preserved
loop-row-preserved c =
    rows_more c.args.whole.width (window_at c.args.left c.args.top c.args.shape) c.loop-row.row c.pixel_at-first.result (c.pixel_at-first.result + c.args.shape.width)
    c.args.marks.now c.loop-row.marks c.mark_between.new.marks c.pixel_at-first.ensures.is refl c.loop-row.invariant
    (c.mark_between.ensures c.if-not-mark_between.false)

pub returns : goal.returns
returns c = λ _.
    rows_at c.args.whole.width (window_at c.args.left c.args.top c.args.shape) c.loop-row.row c.args.shape.height c.args.marks.now c.loop-row.marks
    c.loop-row.invariant (omega (arith, c.loop-row-test.false, c.loop-row.auto.row-end))
