-- Model: what `list` prints: of each field how many rows it has, and the exact sum of their fluxes.
use Rattle.std.specs.Prelude.{ℕ, zero, suc, ◌+◌, ◌*◌, ◌/◌, List, [], ◌∷◌, length, map, get_or, codes, decimal, ℤ, pos, ◌+ℤ◌}
use Rattle.std.specs.List.{concat}
use Rattle.std.specs.Fmt.{signed_decimal}
use Rattle.fits_write.specs.CatalogueColumns.{cells_in_row, flux_place}
use Rattle.survey_core.specs.declared.listing.Summary.{Summary}
use Rattle.survey_core.specs.Tables.{Table}

-- cell c, from 0, of row i, from 0
abbrev pub table_cell : List ℤ → ℕ → ℕ → ℤ
table_cell cells i c = get_or cells (cells_in_row * i + c) (pos 0)

-- how many rows
abbrev pub rows_in : List ℤ → ℕ
rows_in cells = length cells / cells_in_row

abbrev pub flux_at : List ℤ → ℕ → ℤ
flux_at cells i = table_cell cells i flux_place

-- the sum of the fluxes of the first n rows
unfoldable pub flux_total : List ℤ → ℕ → ℤ
flux_total cells zero = pos 0
flux_total cells (suc n) = flux_total cells n +ℤ flux_at cells n

unfoldable pub table_summary : Table → Summary
table_summary t = record { field = t.0; rows = rows_in t.1; flux = flux_total t.1 (rows_in t.1) }

abbrev pub summary_line : Summary → List ℕ
summary_line s = concat (s.field ∷ codes " " ∷ decimal s.rows ∷ codes " " ∷ signed_decimal s.flux ∷ codes "\n" ∷ [])

-- a line for each field, in order
unfoldable pub list_lines : List Table → List ℕ
list_lines tables = concat (map summary_line (map table_summary tables))
