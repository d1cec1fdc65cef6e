use Rattle.tile_laws.proofs.Merging.{pieces_give_the_catalogue}
use Rattle.tile_laws.proofs.Mapping.{MapLaws, pieces_give_the_map}
use Rattle.tile_laws.proofs.Existing.{pieces_can_be_merged, rows_are_one_pieces}
use Rattle.tile_laws.proofs.Backed.{pieces_give_the_measures}
use Rattle.tile_laws.proofs.Final.{parts_of_cores_are_answered, own_rows_are_final, own_measures_are_final}
use Rattle.tile_laws.proofs.Unopened.{unopened_pixels_are_answered}
use Rattle.tile_laws.proofs.laws.pieces_give_the_catalogue.Goals as goal

pub returns : goal.returns
returns c = record {
  catalogue = pieces_give_the_catalogue laws.tiles;
  map = pieces_give_the_map laws;
  measures = pieces_give_the_measures laws;
  merged = pieces_can_be_merged laws;
  one_piece = rows_are_one_pieces laws;
  parts = parts_of_cores_are_answered;
  unopened = unopened_pixels_are_answered laws.tiles.background;
  own_rows = own_rows_are_final laws.tiles;
  own_measures = own_measures_are_final laws;
}
  where
    laws : MapLaws
    laws = record {
      tiles = record {
        background = record {
          one_each = c.residual_is_a_plane.ensures.one_each;
          no_mesh = c.no_mesh_leaves_the_plane.ensures;
          seen = c.residual_is_seen.ensures.residual;
          told = c.residual_is_seen.ensures.told;
        };
        deep = c.sure_components_are_the_same.ensures.deep;
        listed = c.sources_are_listed.ensures.listed;
        in_order = c.sources_are_listed.ensures.in_order;
        each = c.sources_of_tiles.ensures.each;
        own = c.sources_of_tiles.ensures.own;
      };
      same_component = c.sure_components_are_the_same.ensures.same;
      disjoint = c.sources_are_disjoint.ensures.disjoint;
    }
