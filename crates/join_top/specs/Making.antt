-- Bookkeeping: what tiles give together, on its way to the output, and why they give nothing.
use Rattle.std.specs.Prelude.{◌≡◌, ℕ, List, ℤ, Some, slice_get}
use Rattle.comp_tree.specs.declared.shape.Shape.{Shape}
use Rattle.comp_tree.specs.Raster.{Raster, IsPlane}
use Rattle.tree_products.specs.Catalogues.{hdus, IsDetection, detected_hdus}
use Rattle.tile_laws.specs.Pieces.{DetectionChoice, searched}
use Rattle.tile_join.specs.declared.tiles.TileCatalogue.{TileCatalogue}
use Rattle.tile_join.specs.Tiles.{AreJoinable, HasJoinFault}
use Rattle.tile_join.specs.Made.{AreTilesMade}
use Rattle.join_top.specs.declared.ends.JoinRefusal.TheVariants.{NotTiles, Unjoinable}
use Rattle.join_top.specs.declared.making.MakeStop.{MakeStop}
use Rattle.join_top.specs.declared.making.MakeStop.TheVariants.{Refused, NoMemory}
use Rattle.join_top.specs.Joinings.{joined_hdus, IsRefusalOf}

-- the first tile says that the image has this shape
pub record IsWholeOf (tiles : List TileCatalogue) (whole : Shape) : Type 0 where
  pub first : TileCatalogue
  pub at : slice_get tiles 0 ≡ Some first
  pub whole_is : whole ≡ first.whole

-- a map and cells are those of the tiles, which can be joined, and can be written
pub record IsJoinedDetection (whole : Shape) (tiles : List TileCatalogue) (numbers : List ℕ) (cells : List ℤ) : Type 0 where
  pub joinable : AreJoinable whole tiles
  pub output : hdus whole numbers cells ≡ joined_hdus whole tiles
  pub image : (d : DetectionChoice) (r : Raster) → IsPlane r → r.shape ≡ whole → AreTilesMade d r tiles
      → hdus whole numbers cells ≡ detected_hdus (searched d r) d.connect d.choice
  pub writable : IsDetection whole numbers cells

-- the tiles can't be joined by this fault
abbrev pub IsStopOfTiles : Shape → List TileCatalogue → MakeStop → Type 0
IsStopOfTiles whole tiles (Refused NotTiles) = ⊥
IsStopOfTiles whole tiles (Refused (Unjoinable fault)) = HasJoinFault whole tiles fault
IsStopOfTiles whole tiles NoMemory = Unit {0}

-- a refusal is one of the bytes
abbrev pub IsMakeStopOf : List ℕ → MakeStop → Type 0
IsMakeStopOf bytes (Refused refusal) = IsRefusalOf bytes refusal
IsMakeStopOf bytes NoMemory = Unit {0}
