use Rattle.tile_laws.proofs.Boxes.{no_mesh_detects_in_the_image, pieces_give_the_planes_catalogue}
use Rattle.tile_laws.proofs.laws.pieces_give_the_planes_catalogue.Goals as goal

pub returns : goal.returns
returns c = record {
  image = no_mesh_detects_in_the_image c.no_mesh_leaves_the_plane.ensures;
  catalogue = pieces_give_the_planes_catalogue c.no_mesh_leaves_the_plane.ensures c.pieces_give_the_catalogue.ensures.catalogue;
}
