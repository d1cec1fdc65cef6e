use Rattle.std.proofs.Common.{List, length, arith, refl, sym, subst}
use Rattle.std.proofs.lemmas.Option.{slice_get_read}
use Rattle.source_pick.specs.declared.catalogue.CatRow.{CatRow}
use Rattle.tile_join.specs.Places.{HaveFirstsIn}
use Rattle.tile_join.proofs.Frames.{fitting_parts}
use Rattle.tile_join.proofs.Firsts.{tile_firsts}
use Rattle.tile_join.proofs.Listed.{tile_listed, all_listed}
use Rattle.tile_join.proofs.placing.placed_rows.Goals as goal

pub place_rows-requires : goal.place_rows-requires
place_rows-requires c = record {
  firsts = subst (λ (rows : List CatRow). HaveFirstsIn c.args.whole rows) (sym c.deref.ensures.value)
      (tile_firsts c.args.whole c.tile-item.result
      (fitting_parts c.args.whole c.tile-item.result
      (c.requires.fit c.loop-tile.tile-index c.tile-item.result c.loop-tile-test.true
      (slice_get_read c.args.tiles.now (length c.args.tiles.now) c.loop-tile.tile-index c.tile-item.result refl c.loop-tile-test.true c.tile-item.is))));
}

pub loop-tile-preserved : goal.loop-tile-preserved
loop-tile-preserved c =
    tile_listed c.args.whole.width c.args.tiles.now c.loop-tile.tile-index c.tile-item.result c.deref.result.now c.loop-tile.placed.items _
    c.loop-tile.invariant
    (slice_get_read c.args.tiles.now (length c.args.tiles.now) c.loop-tile.tile-index c.tile-item.result refl c.loop-tile-test.true c.tile-item.is)
    c.deref.ensures.value c.in_ok-place_rows.ensures

pub returns : goal.returns
returns c = let e = c.loop-tile-test.false in all_listed c.args.whole.width c.args.tiles.now c.loop-tile.tile-index _ c.loop-tile.invariant (omega (arith, e))
