use Rattle.std.proofs.Common.{◌∙◌, length, refl, arith}
use Rattle.std.proofs.lemmas.Option.{slice_get_read}
use Rattle.source_sheet.proofs.Apart.{apart_none, apart_more, apart_at}
use Rattle.source_sheet.proofs.checking.mark_windows.Goals as goal

pub mark_window-requires-clause-inside : goal.mark_window-requires-clause-inside
mark_window-requires-clause-inside c =
    (c.requires.placed c.loop-place.place-index c.place-item.result
    (slice_get_read c.args.places.now (length c.args.places.now) c.loop-place.place-index c.place-item.result refl c.loop-place-test.true c.place-item.is)).to

pub loop-place-init : goal.loop-place-init
loop-place-init c = record { apart = apart_none c.args.onto.width c.args.places.now c.args.marks.now; one_each = c.requires.one_each }

pub loop-place-preserved : goal.loop-place-preserved
loop-place-preserved c = record {
  apart =
      apart_more c.args.onto.width c.args.places.now c.loop-place.place-index c.place-item.result c.loop-place.marks c.mark_window.new.marks
      (slice_get_read c.args.places.now (length c.args.places.now) c.loop-place.place-index c.place-item.result refl c.loop-place-test.true c.place-item.is)
      c.loop-place.invariant.apart (c.mark_window.ensures c.if-not-mark_window.false);
  one_each = (c.mark_window.ensures c.if-not-mark_window.false).same_length ∙ c.loop-place.invariant.one_each;
}

pub returns : goal.returns
returns c = λ _.
    apart_at c.args.onto.width c.args.places.now c.loop-place.place-index _ c.loop-place.marks c.loop-place.invariant.apart
    (omega (arith, c.loop-place-test.false, c.loop-place.auto.place-index-end))
