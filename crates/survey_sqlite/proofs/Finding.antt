-- What the query for a field's cells answers.
use Rattle.std.proofs.Common.{◌≡◌, inl, inr, ℕ, List, [], ◌∷◌, Some, ap, ◌∙◌}
use Rattle.sqlite.specs.declared.types.Value.TheVariants.{Null, Text, Blob}
use Rattle.sqlite.specs.Order.{Row, column, bytes}
use Rattle.sqlite.specs.Term.{col}
use Rattle.sqlite.specs.Program.{overlay}
use Rattle.sqlite.specs.Effect.{Database, Reads}
use Rattle.survey_sqlite.specs.Blobs.{blob_cells}
use Rattle.survey_sqlite.specs.Source.{AreFieldRows, tables_in}
use Rattle.survey_sqlite.specs.Rows.{IsCellsOf}
use Rattle.survey_sqlite.proofs.Compiled.{has_field, rows_command}
use Rattle.survey_sqlite.proofs.RowLemmas.{find_row, cells_there, cells_not_there}
use Rattle.survey_sqlite.proofs.TestLemmas.{answers_one, answers_none}
use Rattle.survey_sqlite.proofs.Deletion.{found_row, found_none}

pub reads_cells : (db : Database) (are : AreFieldRows (db.trees 0)) (field : List ℕ) (rows : List Row) → Reads rows_command db (Text field ∷ []) rows
    → IsCellsOf (tables_in (db.trees 0)) field rows
reads_cells db are field rows h = elim (find_row (db.trees 0) field) [
  | inl it ↦
      let r = it.0 in
      let f = are.formed r it.1.there in
      let at : column r 2 ≡ Blob f.blob = ap (λ (x : Row). column x 2) f.is in
      let got : rows ≡ (column r 2 ∷ []) ∷ [] =
      answers_one (has_field ∷ []) (col 1 2 ∷ []) (overlay db.trees []) (Text field ∷ []) rows r (found_row (db.trees 0) are field r it.1)
      (h.answer Null) in
      inr (f.blob, got ∙ ap (λ v. (v ∷ []) ∷ []) at, cells_there (db.trees 0) are field r it.1 ∙ ap (λ v. Some (blob_cells (bytes v))) at)
  | inr none ↦
      inl (
        answers_none (has_field ∷ []) (col 1 2 ∷ []) (overlay db.trees []) (Text field ∷ []) rows (found_none (db.trees 0) are field none) (h.answer Null),
        cells_not_there (db.trees 0) field none,
      )
]
