use Rattle.tile_join.proofs.Whole.{joined_tiles_are_the_whole}
use Rattle.tile_join.proofs.laws.joined_tiles_are_the_whole.Goals as goal

pub returns : goal.returns
returns c =
    joined_tiles_are_the_whole c.residual_is_a_plane.ensures.one_each c.pieces_give_the_catalogue.ensures.catalogue c.pieces_give_the_catalogue.ensures.map
    c.pieces_give_the_catalogue.ensures.parts
