-- Model: what is written of a table is read back.
use Rattle.std.specs.Prelude.{◌≡◌, ℕ, ◌*◌, ◌/◌, List, ◌++◌, length, ℤ, FitsSigned, slice_index_or, codes}
use Rattle.std.specs.List.{All}
use Rattle.std.specs.Int.{w64}
use Rattle.fits_write.specs.declared.table.Cell.TheVariants.{J}
use Rattle.fits_write.specs.declared.table.Column.{Column}
use Rattle.fits_write.specs.Columns.{row_size, table_bytes, IsTable}
use Rattle.fits_write.specs.CatalogueColumns.{column, catalogue_columns, measured_columns, cells_in_row, bytes_in_row}
use Rattle.fits_write.specs.CatalogueColumns.{measured_cells_in_row, number_place, flux_place, xcen_place, ycen_place}
use Rattle.fits_write.specs.Rows.{row_cells, table_cells}

-- the numbers of cells and bytes are those of the columns
pub record SizesAreThoseOfColumns : Type 0 where
  pub cells : length catalogue_columns ≡ cells_in_row
  pub bytes : row_size catalogue_columns ≡ bytes_in_row
  pub measured : length measured_columns ≡ measured_cells_in_row

-- the name of the catalogue's column at this place
abbrev pub name_at : ℕ → List ℕ
name_at place = (slice_index_or catalogue_columns place (column (codes "") J)).name

-- the columns that are looked up stand at their places
pub record PlacesAreThoseOfColumns : Type 0 where
  pub number : name_at number_place ≡ codes "NUMBER  "
  pub flux : name_at flux_place ≡ codes "FLUX    "
  pub xcen : name_at xcen_place ≡ codes "XCEN    "
  pub ycen : name_at ycen_place ≡ codes "YCEN    "

-- The cells of a row that can be written are read from its bytes.
abbrev pub WrittenRowIsReadBack : Type 0
WrittenRowIsReadBack =
    (columns : List Column) (cells : List ℤ) → IsTable columns cells → All (FitsSigned w64) cells → length cells ≡ length columns
    → row_cells columns (table_bytes columns cells) ≡ cells

-- So are those of all rows of a table, whatever stands behind it.
abbrev pub WrittenTableIsReadBack : Type 0
WrittenTableIsReadBack =
    (columns : List Column) (cells : List ℤ) (rest : List ℕ) → IsTable columns cells → All (FitsSigned w64) cells
    → table_cells columns (table_bytes columns cells ++ rest) (length cells / length columns) ≡ cells

-- The bytes of a table are as many as its rows have.
abbrev pub TableHasItsRowsBytes : Type 0
TableHasItsRowsBytes =
    (columns : List Column) (cells : List ℤ) → IsTable columns cells
    → length (table_bytes columns cells) ≡ row_size columns * (length cells / length columns)
