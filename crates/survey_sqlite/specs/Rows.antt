-- Model: what the rows say that a query answers, where they are of the form that is written.
use Rattle.std.specs.Prelude.{◌≡◌, ◌⊎◌, ℕ, ℤ, true, List, [], ◌∷◌, All, Option, None, Some, map}
use Rattle.sqlite.specs.declared.types.Value.TheVariants.{Text, Blob}
use Rattle.sqlite.specs.Order.{Row, column, bytes}
use Rattle.survey_core.specs.Fields.{is_name}
use Rattle.survey_core.specs.Tables.{Table, cells_of_field}
use Rattle.survey_sqlite.specs.Blobs.{IsBlob, blob_cells}
use Rattle.survey_sqlite.specs.Steps.{AreRising}

-- one row of a blob that holds the cells, or no row, where there are none
abbrev pub SayCells : List Row → Option (List ℤ) → Type 0
SayCells rows None = rows ≡ []
SayCells rows (Some cells) = (row : Row) × (blob : List ℕ) × (rows ≡ row ∷ []) × (column row 0 ≡ Blob blob) × IsBlob blob × (cells ≡ blob_cells blob)

-- the same of a field of these tables
abbrev pub IsCellsOf : List Table → List ℕ → List Row → Type 0
IsCellsOf tables field rows =
    ((rows ≡ []) × (cells_of_field field tables ≡ None))
    ⊎ ((blob : List ℕ) × (rows ≡ (Blob blob ∷ []) ∷ []) × (cells_of_field field tables ≡ Some (blob_cells blob)))

-- the text in a row's one column
abbrev pub text_in : Row → List ℕ
text_in row = bytes (column row 0)

abbrev pub IsNameRow : Row → Type 0
IsNameRow row = (column row 0 ≡ Text (text_in row)) × (is_name (text_in row) ≡ true)

-- a name in each row, which rise
pub record SayNames (rows : List Row) : Type 0 where
  pub named : All IsNameRow rows
  pub rising : AreRising (map text_in rows)
