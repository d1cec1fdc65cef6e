use Rattle.std.proofs.Common.{length, refl, sym, ◌∙◌}
use Rattle.std.proofs.lemmas.Option.{slice_get_read}
use Rattle.tile_join.proofs.Seen.{fitting_more}
use Rattle.tile_join.proofs.marking.first_unfit.Goals as goal

pub returns-then-not-fits_image : goal.returns-then-not-fits_image
returns-then-not-fits_image c = (
  c.loop-i.invariant,
  (
    c.index-tiles-i.result,
    slice_get_read c.args.tiles.now (length c.args.tiles.now) c.loop-i.i c.index-tiles-i.result refl c.loop-i-test.true c.index-tiles-i.is,
    sym c.fits_image.ensures ∙ c.if-not-fits_image.true,
  ),
)

pub loop-i-preserved : goal.loop-i-preserved
loop-i-preserved c =
    fitting_more c.args.whole c.args.tiles.now c.loop-i.i c.index-tiles-i.result c.loop-i.invariant
    (slice_get_read c.args.tiles.now (length c.args.tiles.now) c.loop-i.i c.index-tiles-i.result refl c.loop-i-test.true c.index-tiles-i.is)
    (sym c.fits_image.ensures ∙ c.if-not-fits_image.false)
