-- Model: the tables of a survey: a finite map from fields to the cells of their catalogues, as the list of its entries in the order of their fields.
use Rattle.std.specs.Prelude.{ℕ, ◌*◌, ◌+◌, ◌%◌, ◌<◌, ◌≡◌, ℤ, pos, true, not, if◌then◌else◌}
use Rattle.std.specs.Prelude.{List, [], ◌∷◌, length, map, filter, slice_get, Option, Some, None, ⊤}
use Rattle.std.specs.declared.cmp.Ordering.TheVariants.{Less}
use Rattle.std.specs.List.{AllByRecursion}
use Rattle.std.specs.Ordering.{is_eq, match_ordering}
use Rattle.fits_write.specs.CatalogueColumns.{cells_in_row}
use Rattle.survey_core.specs.Fields.{is_name, name_cmp}

-- a field, and its cells
abbrev pub Table : Type 0
Table = List ℕ × List ℤ

-- the cells of whole rows, each of which begins with its number, counted from 1
pub record IsNumbered (cells : List ℤ) : Type 0 where
  pub whole : length cells % cells_in_row ≡ 0
  pub numbers : (i : ℕ) → cells_in_row * i < length cells → slice_get cells (cells_in_row * i) ≡ Some (pos (i + 1))

abbrev pub IsFieldTable : Table → Type 0
IsFieldTable t = (is_name t.0 ≡ true) × IsNumbered t.1

-- the fields rise, so none comes twice
abbrev pub AreInOrder : List Table → Type 0
AreInOrder [] = ⊤
AreInOrder (t ∷ ts) = AllByRecursion (λ u. name_cmp t.0 u.0 ≡ Less) ts × AreInOrder ts

abbrev pub AreTables : List Table → Type 0
AreTables ts = AreInOrder ts × AllByRecursion IsFieldTable ts

-- the cells of a field, if it is there
abbrev pub cells_of_field : List ℕ → List Table → Option (List ℤ)
cells_of_field field [] = None
cells_of_field field (t ∷ ts) = if is_eq (name_cmp t.0 field) then Some t.1 else cells_of_field field ts

-- the tables, in which this field has these cells
abbrev pub put : List ℕ → List ℤ → List Table → List Table
put field cells [] = (field, cells) ∷ []
put field cells (t ∷ ts) = match_ordering (name_cmp t.0 field) (t ∷ put field cells ts) ((field, cells) ∷ ts) ((field, cells) ∷ t ∷ ts)

-- the tables without this field
abbrev pub without_field : List ℕ → List Table → List Table
without_field field = filter (λ t. not (is_eq (name_cmp t.0 field)))

abbrev pub names_of : List Table → List (List ℕ)
names_of = map (λ t. t.0)
