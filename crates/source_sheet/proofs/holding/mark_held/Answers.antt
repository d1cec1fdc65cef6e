use Rattle.std.proofs.Common.{◌*◌, sym, arith}
use Rattle.std.proofs.Math.Nat.{zero-mul}
use Rattle.source_sheet.proofs.Held.{first_at, first_none, first_all, rows_all}
use Rattle.source_sheet.proofs.holding.mark_held.Goals as goal

pub loop-row-init : goal.loop-row-init
loop-row-init c =
    first_at c.args.plane.now c.args.sheet.now c.args.choice.now.threshold c.args.place.now 0 (0 * c.args.place.now.shape.width) c.args.marks.now
    c.args.marks.now (first_none c.args.plane.now c.args.sheet.now c.args.choice.now.threshold c.args.place.now c.args.marks.now)
    (sym (zero-mul c.args.place.now.shape.width))

pub returns : goal.returns
returns c = λ _.
    first_all c.args.plane.now c.args.sheet.now c.args.choice.now.threshold c.args.place.now (c.loop-row.row * c.args.place.now.shape.width) c.args.marks.now
    c.loop-row.marks c.loop-row.invariant
    (rows_all c.args.place.now.shape.width c.args.place.now.shape.height c.loop-row.row (omega (arith, c.loop-row-test.false)))
