-- Model: what is written of the sources of a plane: a primary HDU without data, their segmentation map, and their catalogue.
use Rattle.std.specs.Prelude.{◌≡◌, ℕ, ◌*◌, ◌≤◌, List, ◌++◌, length, ℤ}
use Rattle.std.specs.List.{flat_map, All}
use Rattle.comp_tree.specs.declared.shape.Shape.{Shape}
use Rattle.comp_tree.specs.declared.shape.Connect.{Connect}
use Rattle.comp_tree.specs.Raster.{Raster}
use Rattle.fits_write.specs.CatalogueColumns.{catalogue_columns}
use Rattle.fits_write.specs.Columns.{IsTable}
use Rattle.fits_write.specs.Hdus.{empty_primary, map_hdu, table_hdu}
use Rattle.source_pick.specs.declared.choice.Choice.{Choice}
use Rattle.source_pick.specs.Segmentation.{segmentation}
use Rattle.source_pick.specs.Catalogue.{catalogue, cells_of}

-- the HDUs one behind the other
abbrev pub hdus : Shape → List ℕ → List ℤ → List ℕ
hdus shape numbers cells = empty_primary ++ (map_hdu shape numbers ++ table_hdu catalogue_columns cells)

-- the numbers of the catalogue, row by row
unfoldable pub catalogue_cells : Raster → Connect → Choice → List ℤ
catalogue_cells r connect choice = flat_map cells_of (catalogue r connect choice)

-- what is written of the sources of a plane
unfoldable pub detected_hdus : Raster → Connect → Choice → List ℕ
detected_hdus r connect choice = hdus r.shape (segmentation r connect choice) (catalogue_cells r connect choice)

-- a map and cells that can be written
pub record IsDetection (shape : Shape) (numbers : List ℕ) (cells : List ℤ) : Type 0 where
  pub one_each : length numbers ≡ shape.width * shape.height
  pub small : All (λ n. n ≤ 2147483647) numbers
  pub table : IsTable catalogue_columns cells
