use Rattle.std.proofs.Common.{length, refl}
use Rattle.std.proofs.lemmas.Option.{slice_get_read}
use Rattle.source_sheet.proofs.Putting.{taken_to_more}
use Rattle.source_sheet.proofs.map.put_places.Goals as goal

pub loop-place-preserved : goal.loop-place-preserved
loop-place-preserved c =
    taken_to_more c.args.whole.width c.args.onto.width c.args.places.now c.args.numbers.now c.loop-place.place-index c.place-item.result
    c.loop-place.map c.put_place.new.map c.loop-place.invariant
    (slice_get_read c.args.places.now (length c.args.places.now) c.loop-place.place-index c.place-item.result refl c.loop-place-test.true c.place-item.is)
    c.put_place.ensures
