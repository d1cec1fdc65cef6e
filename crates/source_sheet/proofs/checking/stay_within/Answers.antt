use Rattle.std.proofs.Common.{arith}
use Rattle.source_sheet.specs.Laid.{windows_of}
use Rattle.source_sheet.proofs.Copies.{within_none, within_more, within_up_to}
use Rattle.source_sheet.proofs.checking.stay_within.Goals as goal

pub loop-x-init : goal.loop-x-init
loop-x-init c = within_none c.args.plane.now c.args.sheet.now c.args.connect (windows_of c.args.place.now) c.args.row c.args.first

pub loop-x-preserved : goal.loop-x-preserved
loop-x-preserved c =
    within_more c.args.plane.now c.args.sheet.now c.args.connect (windows_of c.args.place.now) c.args.row c.args.first c.loop-x.x c.loop-x.invariant
    (c.has_around.ensures c.if-not-has_around.false) (c.has_around-else-not-has_around.ensures c.if-not-has_around-2.false)

pub returns : goal.returns
returns c = λ _.
    within_up_to c.args.plane.now c.args.sheet.now c.args.connect (windows_of c.args.place.now) c.args.row c.args.first c.loop-x.x c.args.end
    (omega (arith, c.loop-x-test.false)) c.loop-x.invariant
