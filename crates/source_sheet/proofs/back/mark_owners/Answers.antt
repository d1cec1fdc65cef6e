use Rattle.std.proofs.Common.{arith, length, refl}
use Rattle.std.proofs.lemmas.Option.{slice_get_read}
use Rattle.source_sheet.proofs.Owning.{owners_more, owners_up_to}
use Rattle.source_sheet.proofs.back.mark_owners.Goals as goal

pub loop-i-preserved : goal.loop-i-preserved
loop-i-preserved c =
    owners_more c.args.onto.width c.args.places.now c.loop-i.i c.index-places-i.result c.loop-i.owners c.mark_owner.new.owners c.loop-i.invariant
    (slice_get_read c.args.places.now (length c.args.places.now) c.loop-i.i c.index-places-i.result refl c.loop-i-test.true c.index-places-i.is)
    c.mark_owner.ensures

pub returns : goal.returns
returns c =
    let e = c.loop-i-test.false in
    owners_up_to c.args.onto.width c.args.places.now (length c.args.places.now) c.loop-i.i c.loop-i.owners c.loop-i.invariant (omega (arith, e))
