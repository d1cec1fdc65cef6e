use Rattle.std.proofs.Common.{◌<◌, ◌≤◌, arith}
use Rattle.source_sheet.specs.Laid.{windows_of}
use Rattle.source_sheet.proofs.Around.{around_none, around_more, around_all}
use Rattle.source_sheet.proofs.checking.are_same_around.Goals as goal

pub loop-y-init : goal.loop-y-init
loop-y-init c = λ x low high.
    around_none c.args.plane.now c.args.sheet.now c.args.connect (windows_of c.args.place.now) x c.args.row
    c.saturating_sub-y.result (omega (arith, c.saturating_sub-y.ensures))

pub loop-y-preserved : goal.loop-y-preserved
loop-y-preserved c = λ x low high.
    around_more c.args.plane.now c.args.sheet.now c.args.connect (windows_of c.args.place.now) x c.args.row
    c.loop-y.y c.reach_in-reach.result c.saturating_sub-from.result c.end_beside-to.result (omega (arith, high, c.requires.end))
    (omega (arith, c.saturating_sub-from.ensures, low)) (omega (arith, c.end_beside-to.ensures.own, high))
    (λ z few near. c.end_beside-to.ensures.all z few (omega (arith, near, high))) c.reach_in-reach.ensures.near
    (c.is_row_same.ensures c.if-not-is_row_same.false) (c.loop-y.invariant x low high)

pub returns : goal.returns
returns c = λ _ x low high.
    let below : c.end_beside-bottom.result ≤ c.loop-y.y = omega (arith, c.loop-y-test.false) in
    let own : c.args.row < c.end_beside-bottom.result = c.end_beside-bottom.ensures.own in
    around_all c.args.plane.now c.args.sheet.now c.args.connect (windows_of c.args.place.now) x c.args.row
    c.args.place.now.shape.height c.loop-y.y (omega (arith, below, own))
    (λ y l m. let k : y < c.end_beside-bottom.result = c.end_beside-bottom.ensures.all y l m in omega (arith, below, k)) (c.loop-y.invariant x low high)
