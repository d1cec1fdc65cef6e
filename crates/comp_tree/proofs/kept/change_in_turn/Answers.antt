use Rattle.std.proofs.Common.{◌≡◌, ◌*◌, ◌<◌, ◌∙◌, length, take, arith}
use Rattle.comp_tree.proofs.InTurn.{band_inside, bands_all, front_long, band_accepted, band_within, band_more, none_changed, all_changed}
use Rattle.comp_tree.proofs.kept.change_in_turn.Goals as goal

pub change_short_band-requires-clause-inside : goal.change_short_band-requires-clause-inside
change_short_band-requires-clause-inside g c = omega (arith, size, inside, c.loop-n.auto.pixels, c.min-length.ensures)
  where
    inside : c.loop-n.n * c.args.size < length c.args.pixels.now
    inside = band_inside (length c.args.pixels.now) c.args.size c.loop-n.n c.div_ceil-n-end.result c.requires.some c.div_ceil-n-end.ensures c.loop-n-test.true

    size : length (take c.min-length.result c.loop-n.band) ≡ c.min-length.result
    size = front_long c.loop-n.band c.min-length.result (omega (arith, c.loop-n.auto.band, c.requires.room, c.min-length.ensures))

pub change_short_band-requires-clause-accepts : goal.change_short_band-requires-clause-accepts
change_short_band-requires-clause-accepts g c =
    band_accepted g.F.Fn c.args.change.now c.args.size c.args.pixels.now c.loop-n.pixels c.loop-n.n (length (take c.min-length.result c.loop-n.band))
    c.requires.some inside (size ∙ c.min-length.ensures) c.loop-n.invariant c.requires.accepts
  where
    inside : c.loop-n.n * c.args.size < length c.args.pixels.now
    inside = band_inside (length c.args.pixels.now) c.args.size c.loop-n.n c.div_ceil-n-end.result c.requires.some c.div_ceil-n-end.ensures c.loop-n-test.true

    size : length (take c.min-length.result c.loop-n.band) ≡ c.min-length.result
    size = front_long c.loop-n.band c.min-length.result (omega (arith, c.loop-n.auto.band, c.requires.room, c.min-length.ensures))

pub change_short_band-requires-clause-within : goal.change_short_band-requires-clause-within
change_short_band-requires-clause-within g c =
    band_within g.F.Fn c.args.change.now c.args.size c.args.pixels.now c.loop-n.pixels c.loop-n.n (length (take c.min-length.result c.loop-n.band))
    c.requires.some inside (size ∙ c.min-length.ensures) c.loop-n.invariant _ c.requires.within
  where
    inside : c.loop-n.n * c.args.size < length c.args.pixels.now
    inside = band_inside (length c.args.pixels.now) c.args.size c.loop-n.n c.div_ceil-n-end.result c.requires.some c.div_ceil-n-end.ensures c.loop-n-test.true

    size : length (take c.min-length.result c.loop-n.band) ≡ c.min-length.result
    size = front_long c.loop-n.band c.min-length.result (omega (arith, c.loop-n.auto.band, c.requires.room, c.min-length.ensures))

pub loop-n-init : goal.loop-n-init
loop-n-init g c = none_changed g.F.Fn c.args.change.now c.args.size c.args.pixels.now

pub loop-n-preserved : goal.loop-n-preserved
loop-n-preserved g c =
    band_more g.F.Fn c.args.change.now c.args.size c.args.pixels.now c.loop-n.pixels c.loop-n.n (length (take c.min-length.result c.loop-n.band))
    c.requires.some inside (size ∙ c.min-length.ensures) c.loop-n.invariant c.change_short_band.new.pixels c.change_short_band.ensures
  where
    inside : c.loop-n.n * c.args.size < length c.args.pixels.now
    inside = band_inside (length c.args.pixels.now) c.args.size c.loop-n.n c.div_ceil-n-end.result c.requires.some c.div_ceil-n-end.ensures c.loop-n-test.true

    size : length (take c.min-length.result c.loop-n.band) ≡ c.min-length.result
    size = front_long c.loop-n.band c.min-length.result (omega (arith, c.loop-n.auto.band, c.requires.room, c.min-length.ensures))

pub returns-clause-changed : goal.returns-clause-changed
returns-clause-changed g c =
    all_changed g.F.Fn c.args.change.now c.args.size (c.loop-n.n * c.args.size) c.args.pixels.now c.loop-n.pixels c.loop-n.invariant
    (bands_all (length c.args.pixels.now) c.args.size c.loop-n.n c.div_ceil-n-end.result c.requires.some c.div_ceil-n-end.ensures (omega (arith, c.loop-n-test.false)))
