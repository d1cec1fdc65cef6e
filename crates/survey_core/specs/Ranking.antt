-- Model: what `brightest` prints: the rows of all fields, from the greatest flux on.
use Rattle.std.specs.Prelude.{ℕ, ◌==◌, Bool, List, [], ◌∷◌, map, filter, find, length, codes, ℤ, Option}
use Rattle.std.specs.List.{concat, range_with_len, flat_map}
use Rattle.std.specs.Option.{option_to_list}
use Rattle.std.specs.Fmt.{signed_decimal}
use Rattle.std.specs.declared.cmp.Ordering.{Ordering}
use Rattle.std.specs.Ordering.{int_cmp, then_cmp, flip_args, on, is_lt}
use Rattle.fits_write.specs.CatalogueColumns.{number_place, flux_place, xcen_place, ycen_place}
use Rattle.survey_core.specs.declared.ranking.Row.{Row}
use Rattle.survey_core.specs.Fields.{name_cmp}
use Rattle.survey_core.specs.Tables.{Table}
use Rattle.survey_core.specs.Listings.{table_cell, rows_in}

-- what is printed of row i, from 0, of a field
unfoldable pub ranking_row : List ℕ → List ℤ → ℕ → Row
ranking_row field cells i =
    record {
      field = field;
      number = table_cell cells i number_place;
      flux = table_cell cells i flux_place;
      xcen = table_cell cells i xcen_place;
      ycen = table_cell cells i ycen_place;
    }

unfoldable pub rows_of : Table → List Row
rows_of t = map (ranking_row t.0 t.1) (range_with_len 0 (rows_in t.1))

-- the rows of all fields
unfoldable pub all_rows : List Table → List Row
all_rows tables = flat_map rows_of tables

-- by the greater flux, then by the lesser field, then by the lesser number
abbrev pub row_cmp : Row → Row → Ordering
row_cmp = then_cmp (flip_args (on (λ r. r.flux) int_cmp)) (then_cmp (on (λ r. r.field) name_cmp) (on (λ r. r.number) int_cmp))

abbrev pub ranks_before : Row → Row → Bool
ranks_before a b = is_lt (row_cmp a b)

-- how many rows come before this one
abbrev pub place_in : List Row → Row → ℕ
place_in rows row = length (filter (λ other. ranks_before other row) rows)

-- the row before which exactly p rows come
unfoldable pub at_place : List Row → ℕ → Option Row
at_place rows p = find (λ row. place_in rows row == p) rows

-- the rows at the places from 0 below k, where there is one
unfoldable pub ranked : List Row → ℕ → List Row
ranked rows k = flat_map (λ p. option_to_list (at_place rows p)) (range_with_len 0 k)

abbrev pub row_line : Row → List ℕ
row_line r =
    concat (r.field ∷ codes " " ∷ signed_decimal r.number ∷ codes " " ∷ signed_decimal r.flux ∷ codes " " ∷ signed_decimal r.xcen ∷ codes " "
    ∷ signed_decimal r.ycen ∷ codes "\n" ∷ [])

-- a line for each of them
unfoldable pub brightest_lines : List Table → ℕ → List ℕ
brightest_lines tables k = concat (map row_line (ranked (all_rows tables) k))
