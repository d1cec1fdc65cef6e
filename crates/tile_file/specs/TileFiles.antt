-- Model: a tile as the bytes of a FITS file: an empty primary HDU, a table of boxes of the image, the map of the window, and the table of the rows.
use Rattle.std.specs.Prelude.{◌≡◌, ℕ, ◌+◌, ◌*◌, ◌≤◌, IsTrue, ℤ, pos, List, [], ◌∷◌, ◌++◌, length, codes}
use Rattle.std.specs.List.{All, flat_map}
use Rattle.comp_tree.specs.declared.shape.Shape.{Shape}
use Rattle.fits_write.specs.declared.table.Cell.TheVariants.{J}
use Rattle.fits_write.specs.declared.table.Column.{Column}
use Rattle.fits_write.specs.Columns.{IsTable}
use Rattle.fits_write.specs.CatalogueColumns.{column, catalogue_columns}
use Rattle.fits_write.specs.Hdus.{empty_primary, named_hdu, map_hdu, table_hdu}
use Rattle.source_pick.specs.declared.catalogue.CatRow.{CatRow}
use Rattle.source_pick.specs.Catalogue.{cells_of}
use Rattle.tile_laws.specs.declared.extents.Extent.{Extent}
use Rattle.tile_join.specs.declared.tiles.Frame.{Frame}
use Rattle.tile_join.specs.declared.tiles.TileCatalogue.{TileCatalogue}
use Rattle.tile_join.specs.Tiles.{is_frame_of, IsWritableRow}
use Rattle.tile_file.specs.declared.writing.TileFile.{TileFile}

-- ---- boxes

-- the columns of a table of boxes: the least and the greatest columns and rows of each, counted from 1
unfoldable pub box_columns : List Column
box_columns =
    column (codes "XMIN    ") J
    ∷ column (codes "XMAX    ") J
    ∷ column (codes "YMIN    ") J
    ∷ column (codes "YMAX    ") J ∷ []

-- the cells of a box
abbrev pub box_cells : Extent → List ℤ
box_cells e = pos (e.columns.from + 1) ∷ pos e.columns.to ∷ pos (e.rows.from + 1) ∷ pos e.rows.to ∷ []

-- an image of this shape as a box of itself
abbrev pub image_extent : Shape → Extent
image_extent whole = record { columns = record { from = 0; to = whole.width }; rows = record { from = 0; to = whole.height } }

-- a frame as a box
abbrev pub frame_extent : Frame → Extent
frame_extent f =
    record { columns = record { from = f.left; to = f.left + f.shape.width }; rows = record { from = f.top; to = f.top + f.shape.height } }

-- the boxes of a tile: the image, the window, the core and the open boxes
abbrev pub tile_extents : Shape → Frame → Frame → List Extent → List Extent
tile_extents whole window core boxes = image_extent whole ∷ frame_extent window ∷ frame_extent core ∷ boxes

-- the table of boxes
unfoldable pub boxes_hdu : Shape → Frame → Frame → List Extent → List ℕ
boxes_hdu whole window core boxes = named_hdu (codes "TILE") box_columns (flat_map box_cells (tile_extents whole window core boxes))

-- the table of the rows
unfoldable pub rows_hdu : List CatRow → List ℕ
rows_hdu rows = table_hdu catalogue_columns (flat_map cells_of rows)

-- ---- tiles

-- the bytes of a tile, from its parts
unfoldable pub tile_hdus : Shape → Frame → Frame → List Extent → List CatRow → List ℕ → List ℕ
tile_hdus whole window core boxes rows numbers =
    empty_primary ++ (boxes_hdu whole window core boxes ++ (map_hdu window.shape numbers ++ rows_hdu rows))

abbrev pub tile_bytes : TileCatalogue → List ℕ
tile_bytes t = tile_hdus t.whole t.window t.core t.open.items t.rows.items t.map.items

-- those of tiles that stand one behind the other
abbrev pub bytes_of_tiles : List TileCatalogue → List ℕ
bytes_of_tiles tiles = flat_map tile_bytes tiles

-- ---- what can be written

-- a box ends where an image may
pub record HasEndsWithin (e : Extent) : Type 0 where
  pub left : e.columns.from ≤ 65535
  pub right : e.columns.to ≤ 65535
  pub top : e.rows.from ≤ 65535
  pub bottom : e.rows.to ≤ 65535

-- window and core lie in the image, and the boxes can stand in a table
pub record AreTileBoxes (whole : Shape) (window core : Frame) (boxes : List Extent) : Type 0 where
  pub window_inside : IsTrue (is_frame_of whole window)
  pub core_inside : IsTrue (is_frame_of whole core)
  pub ends : All HasEndsWithin boxes
  pub few : length boxes ≤ 2147483644

-- there is a number for each pixel of the window, and it fits a map
pub record AreTileNumbers (shape : Shape) (numbers : List ℕ) : Type 0 where
  pub one_each : length numbers ≡ shape.width * shape.height
  pub small : All (λ n. n ≤ 2147483647) numbers

-- the rows can stand in a table
pub record AreTileRows (rows : List CatRow) : Type 0 where
  pub fit : All IsWritableRow rows
  pub few : length rows ≤ 2147483647

-- the tile can be written
pub record IsTileFile (t : TileCatalogue) : Type 0 where
  pub boxes : AreTileBoxes t.whole t.window t.core t.open.items
  pub numbers : AreTileNumbers t.window.shape t.map.items
  pub rows : AreTileRows t.rows.items

-- ---- a tile that stands ready to be written

-- its bytes
abbrev pub file_bytes : TileFile → List ℕ
file_bytes f =
    empty_primary ++ (named_hdu (codes "TILE") box_columns f.boxes.items ++ (map_hdu f.shape f.numbers.items ++ table_hdu catalogue_columns f.rows.items))

-- it can be put
pub record CanBePut (f : TileFile) : Type 0 where
  pub boxes : IsTable box_columns f.boxes.items
  pub numbers : AreTileNumbers f.shape f.numbers.items
  pub rows : IsTable catalogue_columns f.rows.items
