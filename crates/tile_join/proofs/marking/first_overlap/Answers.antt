use Rattle.std.proofs.Common.{length, arith, refl}
use Rattle.std.proofs.lemmas.Option.{slice_get_read}
use Rattle.tile_join.proofs.Frames.{fitting_parts}
use Rattle.tile_join.proofs.Cores.{cores_none, cores_more, cores_up_to, overlap_from_mark}
use Rattle.tile_join.proofs.marking.first_overlap.Goals as goal

pub loop-i-init : goal.loop-i-init
loop-i-init c = cores_none c.args.whole.width c.args.tiles.now c.args.marks.now c.requires.blank

pub mark_core-requires-clause-inside : goal.mark_core-requires-clause-inside
mark_core-requires-clause-inside c =
    (fitting_parts c.args.whole c.index-tiles-i.result
    (c.requires.fit c.loop-i.i c.index-tiles-i.result c.loop-i-test.true
    (slice_get_read c.args.tiles.now (length c.args.tiles.now) c.loop-i.i c.index-tiles-i.result refl c.loop-i-test.true c.index-tiles-i.is))).core

pub loop-i-preserved : goal.loop-i-preserved
loop-i-preserved c =
    cores_more c.args.whole.width c.args.tiles.now c.loop-i.i c.index-tiles-i.result c.loop-i.marks c.mark_core.new.marks c.loop-i.invariant
    (slice_get_read c.args.tiles.now (length c.args.tiles.now) c.loop-i.i c.index-tiles-i.result refl c.loop-i-test.true c.index-tiles-i.is)
    (c.mark_core.ensures.marked c.if-not-mark_core.false)

pub returns-then-not-mark_core : goal.returns-then-not-mark_core
returns-then-not-mark_core c =
    overlap_from_mark c.args.whole c.args.tiles.now c.loop-i.i c.index-tiles-i.result c.loop-i.marks c.loop-i.invariant
    (slice_get_read c.args.tiles.now (length c.args.tiles.now) c.loop-i.i c.index-tiles-i.result refl c.loop-i-test.true c.index-tiles-i.is)
    (c.mark_core.ensures.met c.if-not-mark_core.true)

pub returns : goal.returns
returns c =
    let e = c.loop-i-test.false in
    cores_up_to c.args.whole.width c.args.tiles.now c.loop-i.i c.loop-i.marks c.loop-i.invariant (omega (arith, e))
