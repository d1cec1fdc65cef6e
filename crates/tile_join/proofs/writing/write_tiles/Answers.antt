use Rattle.std.proofs.Common.{length, refl}
use Rattle.std.proofs.lemmas.Option.{slice_get_read}
use Rattle.tile_join.proofs.Frames.{fitting_parts}
use Rattle.tile_join.proofs.Firsts.{tile_firsts, tile_numbers, all_firsts}
use Rattle.tile_join.proofs.Listed.{tile_written}
use Rattle.tile_join.proofs.writing.write_tiles.Goals as goal

pub numbers_of-requires-clause-firsts : goal.numbers_of-requires-clause-firsts
numbers_of-requires-clause-firsts c =
    tile_firsts c.args.whole c.tile-item.result
    (fitting_parts c.args.whole c.tile-item.result
    (c.requires.fit c.loop-tile.tile-index c.tile-item.result c.loop-tile-test.true
    (slice_get_read c.args.tiles.now (length c.args.tiles.now) c.loop-tile.tile-index c.tile-item.result refl c.loop-tile-test.true c.tile-item.is)))

pub numbers_of-requires-clause-numbers : goal.numbers_of-requires-clause-numbers
numbers_of-requires-clause-numbers c =
    tile_numbers c.args.whole c.tile-item.result
    (fitting_parts c.args.whole c.tile-item.result
    (c.requires.fit c.loop-tile.tile-index c.tile-item.result c.loop-tile-test.true
    (slice_get_read c.args.tiles.now (length c.args.tiles.now) c.loop-tile.tile-index c.tile-item.result refl c.loop-tile-test.true c.tile-item.is)))

pub write_numbers-requires-clause-inside : goal.write_numbers-requires-clause-inside
write_numbers-requires-clause-inside c =
    (fitting_parts c.args.whole c.tile-item.result
    (c.requires.fit c.loop-tile.tile-index c.tile-item.result c.loop-tile-test.true
    (slice_get_read c.args.tiles.now (length c.args.tiles.now) c.loop-tile.tile-index c.tile-item.result refl c.loop-tile-test.true c.tile-item.is))).window

pub write_numbers-requires-clause-window : goal.write_numbers-requires-clause-window
write_numbers-requires-clause-window c =
    (fitting_parts c.args.whole c.tile-item.result
    (c.requires.fit c.loop-tile.tile-index c.tile-item.result c.loop-tile-test.true
    (slice_get_read c.args.tiles.now (length c.args.tiles.now) c.loop-tile.tile-index c.tile-item.result refl c.loop-tile-test.true c.tile-item.is))).pixels

pub loop-tile-preserved : goal.loop-tile-preserved
loop-tile-preserved c =
    tile_written c.args.whole c.args.tiles.now c.args.placed.now c.loop-tile.tile-index c.tile-item.result c.in_ok-table.table.items c.deref.result.now
    c.loop-tile.map c.write_numbers.new.map (all_firsts c.args.whole c.args.tiles.now c.requires.fit) c.requires.rows
    (slice_get_read c.args.tiles.now (length c.args.tiles.now) c.loop-tile.tile-index c.tile-item.result refl c.loop-tile-test.true c.tile-item.is)
    c.in_ok-table.ensures c.deref.ensures.value c.write_numbers.ensures c.loop-tile.invariant
