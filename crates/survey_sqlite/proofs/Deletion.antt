-- What the DELETE makes of the rows of `source`.
use Rattle.std.proofs.Common.{◌≡◌, ◌≢◌, ◌⊎◌, inl, inr, ℕ, ℤ, Bool, true, not, ◌&&◌, List, [], ◌∷◌}
use Rattle.std.proofs.Common.{filter, length, None, Option, Ok, refl, sym, ap, subst, ◌∙◌, is_eq}
use Rattle.std.specs.List.{list_all}
use Rattle.std.proofs.lemmas.List.{length-map}
use Rattle.std.proofs.lemmas.Bool.{and_parts, false_from_ne_true}
use Rattle.sqlite.specs.declared.types.Value.TheVariants.{Null, Int, Text}
use Rattle.sqlite.specs.Order.{Row, column}
use Rattle.sqlite.specs.Term.{col, holds}
use Rattle.sqlite.specs.Program.{overlay}
use Rattle.sqlite.specs.Tree.{Trees}
use Rattle.sqlite_trees.specs.Tree.{has_rowid}
use Rattle.sqlite_trees.proofs.ListLemmas.{ascending-filter}
use Rattle.sqlite.specs.Edit.{edit_of}
use Rattle.sqlite.specs.Rowids.TheVariants.{Given}
use Rattle.sqlite_rules.specs.Lists.{Has}
use Rattle.sqlite_rules.specs.Calls.{ids_of}
use Rattle.sqlite_rules.specs.Edit.{taken_by}
use Rattle.sqlite_rules.proofs.ListLemmas.{has_filtered, has_kept}
use Rattle.sqlite_schema.specs.declared.schema.Keys.TheVariants.{Enforced}
use Rattle.sqlite.specs.Rows.{Written, Task, Then, Edited, Gives, Deletes}
use Rattle.sqlite.proofs.Callers.{one_step}
use Rattle.survey_core.specs.Fields.{name_cmp}
use Rattle.survey_sqlite.specs.Schemas.{source, source_schema}
use Rattle.survey_sqlite.specs.Source.{row_field, IsFormed, AreFieldRows}
use Rattle.survey_sqlite.proofs.Compiled.{simple_query, alone, has_field}
use Rattle.survey_sqlite.proofs.RowLemmas.{Removes, IsRowOf, find_row}
use Rattle.survey_sqlite.proofs.TestLemmas.{equal_texts, answers_one, answers_none}
use Rattle.survey_sqlite.proofs.StatementLemmas.{went, same_value, filter_one, filter_nothing, same_from_test}
use Rattle.survey_sqlite.proofs.StatementLemmas.{test_from_same, keeps_rowid, drops_rowid, same_row}

module _ (rows : List Row) (are : AreFieldRows rows) (field : List ℕ) where
  abbrev pub tests : Row → Bool
  tests r = list_all (holds ((Text field ∷ []) ∷ r ∷ [])) (has_field ∷ [])

  test_is : (r : Row) → IsFormed r → tests r ≡ (is_eq (name_cmp (row_field r) field) && true)
  test_is r f = subst (λ x. tests x ≡ (is_eq (name_cmp (row_field x) field) && true)) (sym f.is) (ap (λ b. b && true) (equal_texts f.field field))

  passes : (r : Row) → IsFormed r → row_field r ≡ field → tests r ≡ true
  passes r f same = test_is r f ∙ rw (test_from_same (row_field r) field same) refl

  passed : (r : Row) → IsFormed r → tests r ≡ true → row_field r ≡ field
  passed r f t = same_from_test (row_field r) field (and_parts _ _ (sym (test_is r f) ∙ t)).0

  pub found_row : (r : Row) → IsRowOf rows field r → filter tests rows ≡ r ∷ []
  found_row r it = filter_one tests rows are.ordered r it.there (passes r (are.formed r it.there) it.field_is)
      (λ x m t. are.once x r m it.there (passed x (are.formed x m) t ∙ sym it.field_is))

  pub found_none : ((r : Row) → Has rows r → row_field r ≢ field) → filter tests rows ≡ []
  found_none none = filter_nothing tests rows (λ x m. false_from_ne_true (tests x) (λ t. none x m (passed x (are.formed x m) t)))

module _ (limit : Option ℕ) (db : Trees) (are : AreFieldRows (db 0)) (field : List ℕ) where
  abbrev pub task : Task
  task = record { limit = limit; keys = Enforced; schema = source_schema; table = source; params = Text field ∷ [] }

  abbrev pub removal : Rattle.sqlite_schema.specs.declared.program.Program.Program
  removal = alone (simple_query (has_field ∷ []) (col 1 0 ∷ []))

  -- it changed one row exactly where the field was there
  abbrev pub Counts : Written → Type 0
  Counts w = ((r : Row) × IsRowOf (db 0) field r × (length w.rows ≡ 1)) ⊎ (((r : Row) → Has (db 0) r → row_field r ≢ field) × (length w.rows ≡ 0))

  step : (ids : List ℤ) (read : List Row) → ids_of read ≡ ids → (w : Written)
      → Then (Edited source_schema Enforced db (edit_of db source (ids_of read) Given 0 []))
      (λ n. Gives (record { trees = n; rows = taken_by db (edit_of db source (ids_of read) Given 0 []); last = None })) (Ok w)
      → (w.trees 0 ≡ Rattle.sqlite.specs.Edit.without_all (db 0) ids) × (length w.rows ≡ length ids)
  step ids read e w h =
      let done =
      went (subst (λ is. Then (Edited source_schema Enforced db (edit_of db source is Given 0 []))
      (λ n. Gives (record { trees = n; rows = taken_by db (edit_of db source is Given 0 []); last = None })) (Ok w)) e h) in
      let applied = one_step source_schema Enforced db done.0 (edit_of db source ids Given 0 []) refl done.1 in
      (ap (λ (x : Written). x.trees 0) (same_value done.2) ∙ applied.rows, ap (λ (x : Written). length x.rows) (same_value done.2) ∙ length-map ids _)

  pub deletes : (w : Written) → Deletes task removal db (Ok w) → Removes (db 0) field (w.trees 0) × Counts w
  deletes w h =
      let read = went h in
      elim (find_row (db 0) field) [
        | inl it ↦
            let r = it.0 in
            let f = are.formed r it.1.there in
            let at : column r 0 ≡ Int f.id = ap (λ (x : Row). column x 0) f.is in
            let got : read.0 ≡ (column r 0 ∷ []) ∷ [] =
            answers_one (has_field ∷ []) (col 1 0 ∷ []) (overlay db []) (Text field ∷ []) read.0 r (found_row (db 0) are field r it.1)
            (read.1.answer Null) in
            let out = step (f.id ∷ []) read.0 (ap ids_of (got ∙ ap (λ v. (v ∷ []) ∷ []) at)) w read.2 in (
              subst (Removes (db 0) field) (sym out.0) (record {
                ordered = ascending-filter _ _ (db 0) are.ordered;
                keeps = λ x m other. has_kept (λ y. not (has_rowid f.id y)) (db 0) x m
                    (drops_rowid limit db are field [] f.id x (are.formed x m)
                    (λ e. other (ap row_field (same_row limit db are field [] f.id x r m it.1.there e at) ∙ it.1.field_is)));
                from = λ x m. let both = has_filtered (λ y. not (has_rowid f.id y)) (db 0) x m in (
                  both.0,
                  λ same. keeps_rowid limit db are field [] f.id x both.0 both.1
                      (ap (λ (y : Row). column y 0) (are.once x r both.0 it.1.there (same ∙ sym it.1.field_is)) ∙ at),
                );
              }),
              inl (r, it.1, out.1),
            )
        | inr none ↦
            let got : read.0 ≡ [] =
            answers_none (has_field ∷ []) (col 1 0 ∷ []) (overlay db []) (Text field ∷ []) read.0 (found_none (db 0) are field none) (read.1.answer Null) in
            let out = step [] read.0 (ap ids_of got) w read.2 in (
              subst (Removes (db 0) field) (sym out.0) (record { ordered = are.ordered; keeps = λ x m other. m; from = λ x m. (m, none x m) }),
              inr (none, out.1),
            )
      ]
