use Rattle.std.proofs.lemmas.Option.{slice_get-get_or}
use Rattle.tile_join.proofs.Firsts.{zero_row}
use Rattle.tile_join.proofs.placing.place_rows.Goals as goal

pub first_pixel-first-requires : goal.first_pixel-first-requires
first_pixel-first-requires c = record {
  first = c.requires.firsts c.loop-row.row-index _ (slice_get-get_or c.args.rows.now c.loop-row.row-index zero_row c.loop-row-test.true);
}
