use Rattle.std.proofs.Common.{length, refl}
use Rattle.std.proofs.lemmas.Option.{slice_get_read}
use Rattle.source_sheet.proofs.Held.{apart_none, apart_more}
use Rattle.source_sheet.proofs.holding.mark_all_held.Goals as goal

pub loop-place-init : goal.loop-place-init
loop-place-init c = apart_none _ _ _ _ _ c.requires.blank

pub loop-place-preserved : goal.loop-place-preserved
loop-place-preserved c =
    apart_more c.args.plane.now c.args.sheet.now c.args.choice.now.threshold c.args.places.now c.loop-place.place-index c.place-item.result c.loop-place.marks
    c.mark_held.new.marks c.loop-place.invariant
    (slice_get_read c.args.places.now (length c.args.places.now) c.loop-place.place-index c.place-item.result refl c.loop-place-test.true c.place-item.is)
    (c.mark_held.ensures c.if-not-mark_held.false)
