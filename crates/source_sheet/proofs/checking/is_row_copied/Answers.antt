use Rattle.std.proofs.Common.{◌+◌, ◌*◌, arith}
use Rattle.source_sheet.specs.Laid.{windows_of}
use Rattle.source_sheet.proofs.Copies.{copied_before, copied_behind, copied_at}
use Rattle.source_sheet.proofs.checking.is_row_copied.Goals as goal

pub loop-first-init : goal.loop-first-init
loop-first-init c = record {
  copied =
      copied_before c.args.plane.now c.args.sheet.now c.args.connect c.args.choice.now.threshold (windows_of c.args.place.now) c.args.row
      c.args.place.now.shape.width c.high_from-first.result c.high_from-first.ensures.low;
  within = c.high_from-first.ensures.within;
}

pub loop-first-preserved : goal.loop-first-preserved
loop-first-preserved c = record {
  copied =
      copied_behind c.args.plane.now c.args.sheet.now c.args.connect c.args.choice.now.threshold (windows_of c.args.place.now) c.args.row
      c.loop-first.first c.low_from-end.result c.high_from-first-in-loop-first.result c.loop-first.invariant.copied
      (c.is_run_copied.ensures c.if-not-is_run_copied.false) c.high_from-first-in-loop-first.ensures.low;
  within = c.high_from-first-in-loop-first.ensures.within;
}

pub returns : goal.returns
returns c = λ _.
    copied_at c.args.plane.now c.args.sheet.now c.args.connect c.args.choice.now.threshold (windows_of c.args.place.now)
    (c.args.row * c.args.place.now.shape.width) (c.args.row * c.args.place.now.shape.width + c.loop-first.first) _ c.loop-first.invariant.copied
    (omega (arith, c.loop-first-test.false, c.loop-first.invariant.within))
