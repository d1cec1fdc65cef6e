-- Model: the rows of the table `source`, and the tables of fields that they are.
use Rattle.std.specs.Prelude.{ℕ, ◌≡◌, ℤ, true, false, List, [], ◌∷◌, IsTrue}
use Rattle.sqlite.specs.declared.types.Value.TheVariants.{Int, Text, Blob}
use Rattle.sqlite.specs.Order.{Row, column, bytes}
use Rattle.sqlite.specs.Tree.{IsTable}
use Rattle.sqlite.specs.State.{State}
use Rattle.sqlite_rules.specs.Lists.{Has}
use Rattle.survey_core.specs.Fields.{is_name}
use Rattle.survey_core.specs.Tables.{Table, IsNumbered, put}
use Rattle.survey_sqlite.specs.Schemas.{source_schema}
use Rattle.survey_sqlite.specs.Blobs.{blob_cells}

abbrev pub row_field : Row → List ℕ
row_field row = bytes (column row 1)

abbrev pub entry : Row → Table
entry row = (row_field row, blob_cells (bytes (column row 2)))

-- each row's field with the cells of its blob
abbrev pub tables_in : List Row → List Table
tables_in [] = []
tables_in (row ∷ rows) = put (row_field row) (blob_cells (bytes (column row 2))) (tables_in rows)

-- a rowid, the name of a field, and the bytes of the cells of its rows
pub record IsFormed (row : Row) : Type 0 where
  pub id : ℤ
  pub field : List ℕ
  pub blob : List ℕ
  pub is : row ≡ Int id ∷ Text field ∷ Blob blob ∷ []
  pub named : is_name field ≡ true
  pub numbered : IsNumbered (blob_cells blob)

-- rows by their rowids, each of this form, with one for a field
pub record AreFieldRows (rows : List Row) : Type 0 where
  pub ordered : IsTable rows
  pub formed : (row : Row) → Has rows row → IsFormed row
  pub once : (a b : Row) → Has rows a → Has rows b → row_field a ≡ row_field b → a ≡ b

-- between two calls of a keeper the connection is open and in no transaction, and shows the table `source` alone, with rows of its form
pub record IsAtRest (s : State) : Type 0 where
  pub is_open : IsTrue s.is_open
  pub settled : s.now ≡ s.committed
  pub autocommit : s.in_transaction ≡ false
  pub schema : s.now.schema ≡ source_schema
  pub rows : AreFieldRows (s.now.trees 0)
