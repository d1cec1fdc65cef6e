use Rattle.tile_join.proofs.Known.{known_rows_are_final}
use Rattle.tile_join.proofs.laws.known_rows_are_final.Goals as goal

pub returns : goal.returns
returns c = known_rows_are_final c.pieces_give_the_catalogue.ensures.own_rows
