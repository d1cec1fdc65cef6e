use Rattle.std.proofs.Common.{◌≡◌, ◌*◌, ap, arith}
use Rattle.source_sheet.specs.Laid.{windows_of}
use Rattle.source_sheet.proofs.Copies.{copied_none, copied_joined, copied_at}
use Rattle.source_sheet.proofs.checking.are_rows_copied.Goals as goal

pub loop-row-init : goal.loop-row-init
loop-row-init c = copied_none _ _ _ _ _ _ _ (omega arith)

pub loop-row-preserved : goal.loop-row-preserved
loop-row-preserved c =
    copied_joined c.args.plane.now c.args.sheet.now c.args.connect c.args.choice.now.threshold (windows_of c.args.place.now)
    0 (c.loop-row.row * c.args.place.now.shape.width) _ c.loop-row.invariant (c.is_row_copied.ensures c.if-not-is_row_copied.false)

pub returns : goal.returns
returns c = λ _.
    let whole : c.loop-row.row ≡ c.args.place.now.shape.height = omega (arith, c.loop-row-test.false, c.loop-row.auto.row-end) in
    copied_at c.args.plane.now c.args.sheet.now c.args.connect c.args.choice.now.threshold (windows_of c.args.place.now)
    0 (c.loop-row.row * c.args.place.now.shape.width) _ c.loop-row.invariant (ap (λ n. n * c.args.place.now.shape.width) whole)
