-- Model: what `join` makes of the files of tiles.
use Rattle.std.specs.Prelude.{◌≡◌, ℕ, List, Some, slice_get}
use Rattle.std.specs.List.{flat_map, All}
use Rattle.comp_tree.specs.declared.shape.Shape.{Shape}
use Rattle.source_pick.specs.Catalogue.{cells_of}
use Rattle.tree_products.specs.Catalogues.{hdus}
use Rattle.tile_join.specs.declared.tiles.TileCatalogue.{TileCatalogue}
use Rattle.tile_join.specs.Tiles.{AreJoinable, HasJoinFault}
use Rattle.tile_join.specs.Joins.{joined_rows, joined_map}
use Rattle.tile_file.specs.TileFiles.{bytes_of_tiles, IsTileFile}
use Rattle.join_top.specs.declared.ends.JoinRefusal.{JoinRefusal}
use Rattle.join_top.specs.declared.ends.JoinRefusal.TheVariants.{NotTiles, Unjoinable}

-- the bytes are the files of these tiles, one behind the other, at least one; the image has the shape that the first one says
pub record AreTilesIn (bytes : List ℕ) (whole : Shape) (tiles : List TileCatalogue) : Type 0 where
  pub first : TileCatalogue
  pub at : slice_get tiles 0 ≡ Some first
  pub whole_is : whole ≡ first.whole
  pub files : All IsTileFile tiles
  pub bytes_are : bytes ≡ bytes_of_tiles tiles

-- what is written of tiles that can be joined: what `detect` writes of a map and a catalogue
unfoldable pub joined_hdus : Shape → List TileCatalogue → List ℕ
joined_hdus whole tiles = hdus whole (joined_map whole tiles) (flat_map cells_of (joined_rows whole tiles))

-- the output of these bytes: they are tiles that can be joined
pub record IsJoinedOutput (bytes output : List ℕ) : Type 0 where
  pub whole : Shape
  pub tiles : List TileCatalogue
  pub are_tiles : AreTilesIn bytes whole tiles
  pub joinable : AreJoinable whole tiles
  pub output_is : output ≡ joined_hdus whole tiles

-- the tiles of the bytes can't be joined, by this fault, or there are none
abbrev pub IsRefusalOf : List ℕ → JoinRefusal → Type 0
IsRefusalOf bytes NotTiles = (whole : Shape) (tiles : List TileCatalogue) → AreTilesIn bytes whole tiles → ⊥
IsRefusalOf bytes (Unjoinable fault) = (whole : Shape) × (tiles : List TileCatalogue) × AreTilesIn bytes whole tiles × HasJoinFault whole tiles fault
