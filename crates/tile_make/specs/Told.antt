-- Bookkeeping: what is known on the way to a tile.
use Rattle.std.specs.Prelude.{◌≡◌, ℕ, ◌<◌, Bool, true, false, IsTrue, slice_index_or, List, [], ℤ, Option, None, pos, ◌≤ℤ◌}
use Rattle.comp_tree.specs.declared.shape.Shape.{Shape}
use Rattle.comp_tree.specs.declared.shape.Connect.{Connect}
use Rattle.comp_tree.specs.Raster.{Raster, IsPlane, is_defined}
use Rattle.comp_tree.specs.Components.{tree_of}
use Rattle.comp_tree.specs.Windows.{IsInside}
use Rattle.mesh_background.specs.Mesh.{cell_count, mesh_cell_of}
use Rattle.mesh_background.specs.Windows.{IsOnMesh}
use Rattle.mesh_background.specs.Laws.{ResidualIsPlane}
use Rattle.node_sums.specs.Outlines.{outlines_in}
use Rattle.source_pick.specs.declared.choice.Choice.{Choice}
use Rattle.source_pick.specs.declared.catalogue.CatRow.{CatRow}
use Rattle.source_pick.specs.Catalogue.{catalogue}
use Rattle.source_pick.specs.Segmentation.{segmentation}
use Rattle.source_pick.specs.Locality.{KeptIsAPlane}
use Rattle.tile_laws.specs.declared.extents.Extent.{Extent}
use Rattle.tile_laws.specs.Clear.{clear_box, window_box, IsBoxWithin}
use Rattle.tile_laws.specs.Final.{UnopenedPixelsAreAnswered}
use Rattle.tile_laws.specs.Extents.{extent_box}
use Rattle.tile_laws.specs.Laws.{FlatBoxesAreSure}
use Rattle.tile_join.specs.declared.tiles.TileCatalogue.{TileCatalogue}
use Rattle.tile_join.specs.Tiles.{window_of}
use Rattle.tile_make.specs.declared.placing.TilePlace.{TilePlace}
use Rattle.tile_make.specs.Placed.{window_of_place}
use Rattle.tile_make.specs.TileOf.{frame_at, left_open, own_of}

-- the place is one of a tile: the core lies in the window of this shape, this in the image, and its corner stands on the mesh
pub record IsPlacedWell (place : TilePlace) (shape : Shape) (mesh : ℕ) : Type 0 where
  pub inside : IsInside place.whole (window_of_place place shape)
  pub core : IsBoxWithin (window_box (window_of_place place shape)) (window_box (window_of place.core))
  pub on_mesh : 0 < mesh → IsOnMesh mesh (window_of_place place shape)

-- a row of the image stands in it
pub record FirstStandsIn (whole : Shape) (row : CatRow) : Type 0 where
  pub left : pos 1 ≤ℤ row.xfirst
  pub right : row.xfirst ≤ℤ pos whole.width
  pub top : pos 1 ≤ℤ row.yfirst
  pub bottom : row.yfirst ≤ℤ pos whole.height

-- the cells of a plane's mesh that have one of the first pixels, a defined one, are marked, and others aren't
pub record AreMarkedCells (s : Raster) (mesh count : ℕ) (found : List Bool) : Type 0 where
  pub all : (b : ℕ) → b < count → IsTrue (is_defined s b) → slice_index_or found (mesh_cell_of mesh s.shape.width b) false ≡ true
  pub each : (k : ℕ) → slice_index_or found k false ≡ true → (b : ℕ) × IsTrue (is_defined s b) × (mesh_cell_of mesh s.shape.width b ≡ k)

-- each cell of a plane's mesh has a defined pixel
abbrev pub HasNoEmptyCell : Raster → ℕ → Type 0
HasNoEmptyCell s mesh = (k : ℕ) → k < cell_count mesh s.shape → (b : ℕ) × IsTrue (is_defined s b) × (mesh_cell_of mesh s.shape.width b ≡ k)

-- the box in which a window's background is the image's
pub record IsSureExtent (empty : Option ℤ) (flat : Bool) (mesh : ℕ) (s : Raster) (place : TilePlace) (sure : Extent) : Type 0 where
  pub box : extent_box sure ≡ clear_box flat mesh place.whole (window_of_place place s.shape)
  pub full : empty ≡ None → flat ≡ false → 0 < mesh → HasNoEmptyCell s mesh

-- the tile tells what was found in plane k
pub record IsTold (k : Raster) (connect : Connect) (choice : Choice) (place : TilePlace) (sure : Option Extent) (t : TileCatalogue) : Type 0 where
  pub plane : IsPlane k
  pub whole : t.whole ≡ place.whole
  pub window : t.window ≡ frame_at place.left place.top k.shape
  pub core : t.core ≡ place.core
  pub rows : t.rows.items ≡ own_of place k.shape (catalogue k connect choice)
  pub map : t.map.items ≡ segmentation k connect choice
  pub «open» : t.open.items ≡ left_open choice.threshold place sure (tree_of k connect).rows (outlines_in k connect)

-- the laws on which a tile stands
pub record MakingLaws : Type 0 where
  pub unopened : UnopenedPixelsAreAnswered
  pub flat : FlatBoxesAreSure
  pub residual : ResidualIsPlane
  pub kept : KeptIsAPlane
