-- Model: the catalogue at the front of a list of bytes: a FITS file whose HDU 2 is a table with the catalogue's columns, as `detect` writes it.
use Rattle.std.specs.Prelude.{ℕ, ◌+◌, ◌*◌, ◌/◌, ◌^◌, ◌==◌, ◌&&◌, Bool, not, List}
use Rattle.std.specs.Prelude.{length, drop, min, find, ℤ, pos, nat_lt, Option, Some, None, if◌then◌else◌}
use Rattle.std.specs.List.{range_with_len}
use Rattle.std.specs.Ordering.{int_eq}
use Rattle.fits_write.specs.CatalogueColumns.{catalogue_columns, cells_in_row, bytes_in_row, number_place}
use Rattle.fits_write.specs.Rows.{table_cells}
use Rattle.fits_hdu.specs.declared.answer.Hdu.{Hdu}
use Rattle.fits_hdu.specs.Headers.{Found, found, refused, is_other}
use Rattle.fits_hdu.specs.Finding.{find_of, padded}
use Rattle.survey_core.specs.declared.fault.Stop.{Stop}
use Rattle.survey_core.specs.declared.fault.Stop.TheVariants.{Refused}
use Rattle.survey_core.specs.declared.fault.Fault.TheVariants as at_hdu
use Rattle.survey_core.specs.declared.fault.Fault.TheVariants.{NotCatalogue, TooManyRows, TruncatedTable, RowNumber}
use Rattle.survey_core.specs.Listings.{table_cell}

-- ---- the rows

-- row i, from 0, doesn't have the number of its place, from 1
abbrev pub is_misnumbered : List ℤ → ℕ → Bool
is_misnumbered cells i = not (int_eq (table_cell cells i number_place) (pos (i + 1)))

-- the first such row
unfoldable pub first_misnumbered : List ℤ → Option ℕ
first_misnumbered cells = find (is_misnumbered cells) (range_with_len 0 (length cells / cells_in_row))

-- ---- the catalogue

-- an HDU that can be a catalogue's table
unfoldable pub is_catalogue : Hdu → Bool
is_catalogue hdu =
    (((is_other hdu.kind && int_eq hdu.bitpix (pos 8)) && hdu.naxis == 2) && hdu.width == bytes_in_row)
    && hdu.data_bytes == bytes_in_row * hdu.height

abbrev pub most_rows : ℕ
most_rows = 2 ^ 20

-- the cells of a catalogue and the place behind it, or what is found in its place and how many bytes are taken
pub data Reading : Type 0 where
  accepted : List ℤ → ℕ → Reading
  rejected : Stop → ℕ → Reading

-- by the first misnumbered row, if there is one, of a table of this size; the padding may be missing
abbrev pub numbered : List ℕ → ℕ → List ℤ → Option ℕ → Reading
numbered bytes size cells None = accepted cells (min (padded size) (length bytes))
numbered bytes size cells (Some i) = rejected (Refused (RowNumber (i + 1))) size

-- of the bytes behind a header, and so many rows
unfoldable pub table_of : List ℕ → ℕ → Reading
table_of bytes rows =
    if nat_lt (length bytes) (bytes_in_row * rows) then rejected (Refused TruncatedTable) (length bytes)
    else numbered bytes (bytes_in_row * rows) (table_cells catalogue_columns bytes rows) (first_misnumbered (table_cells catalogue_columns bytes rows))

-- so many bytes were taken before
abbrev pub beyond : ℕ → Reading → Reading
beyond head (accepted cells taken) = accepted cells (head + taken)
beyond head (rejected stop taken) = rejected stop (head + taken)

-- more rows than a survey takes
abbrev pub too_many_rows : ℕ → Reading
too_many_rows head = rejected (Refused TooManyRows) head

-- by what HDU 2 is
unfoldable pub reading_by : List ℕ → Found → Reading
reading_by bytes (refused fault taken) = rejected (Refused (at_hdu.Hdu fault)) taken
reading_by bytes (found hdu head) =
    if is_catalogue hdu
    then (if nat_lt most_rows hdu.height then too_many_rows head else beyond head (table_of (drop head bytes) hdu.height))
    else rejected (Refused NotCatalogue) head

-- the catalogue at the front of these bytes
unfoldable pub catalogue_in : List ℕ → Reading
catalogue_in bytes = reading_by bytes (find_of bytes 2)
