-- Model: the laws of tiles: joined, they give what detection gives in the whole image, and what one tells outside its open boxes is final.
use Rattle.std.specs.Prelude.{◌≡◌, true, List, Contains}
use Rattle.comp_tree.specs.Raster.{Raster, IsPlane}
use Rattle.source_pick.specs.declared.catalogue.CatRow.{CatRow}
use Rattle.tile_laws.specs.Final.{IsFinalRow}
use Rattle.tile_laws.specs.Pieces.{DetectionChoice, detected, mapped, first_pixel}
use Rattle.tile_join.specs.declared.tiles.TileCatalogue.{TileCatalogue}
use Rattle.tile_join.specs.Tiles.{AreJoinable}
use Rattle.tile_join.specs.Joins.{joined_rows, joined_map}
use Rattle.tile_join.specs.Made.{AreTilesMade, IsTileMade, is_known_of}

abbrev pub JoinedTilesAreTheWhole : Type 0
JoinedTilesAreTheWhole = (d : DetectionChoice) (r : Raster) (tiles : List TileCatalogue) → IsPlane r → AreTilesMade d r tiles → AreJoinable r.shape tiles
    → (joined_rows r.shape tiles ≡ detected d r) × (joined_map r.shape tiles ≡ mapped d r)

-- a row of one tile whose first pixel lies in none of its open boxes is one of the whole image's, whatever the other tiles tell
abbrev pub KnownRowsAreFinal : Type 0
KnownRowsAreFinal = (d : DetectionChoice) (r : Raster) (t : TileCatalogue) (row : CatRow) → IsPlane r → IsTileMade d r t → Contains t.rows.items row
    → is_known_of r.shape.width t.core t.open.items (first_pixel r.shape.width row) ≡ true → IsFinalRow d r row
