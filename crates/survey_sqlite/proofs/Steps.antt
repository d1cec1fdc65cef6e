-- What each statement does to a connection at rest.
use Rattle.std.proofs.Common.{◌≡◌, ◌⊎◌, inl, inr, ℕ, Bool, true, false, List, [], ◌∷◌, length, None, Ok}
use Rattle.std.proofs.Common.{Err, Result, IsTrue, OnOk, IfOk, OnErr, IfErr, refl, sym, ap, subst, ◌∙◌}
use Rattle.sqlite.specs.declared.types.Value.TheVariants.{Text, Blob}
use Rattle.sqlite.specs.Order.{Row}
use Rattle.sqlite.specs.Command.TheVariants.{CreateTable}
use Rattle.sqlite.specs.Change.{created, next_tree}
use Rattle.sqlite.specs.Listing.{understood}
use Rattle.sqlite.specs.declared.error.Error.{Error}
use Rattle.sqlite.specs.declared.error.Error.TheVariants.{ExecuteReturnedResults}
use Rattle.sqlite_resolve.specs.declared.compiled.Compiled.{Compiled}
use Rattle.sqlite.specs.Clock.{timed}
use Rattle.std.specs.Prelude.{MatchBool, ◌==◌, is_some, unwrap_or}
use Rattle.sqlite.specs.Effect.{Database}
use Rattle.sqlite.specs.Does.{Tally, Does, lacks_sequence}
use Rattle.sqlite.specs.State.{State, mode_of, Writes, Executes, ExecutesIn, RunsAlone, RunsCommand, Shown, FailsToQuery}
use Rattle.sqlite.specs.State.{FailsToShow, ShowsRows, IsNotRun, IsUnchanged, IsRolledBack, HasCleanDisk, shows_rows, Opens}
use Rattle.sqlite.proofs.Callers.{IsPlain, runs_as, reads_as, statement_of}
use Rattle.survey_core.specs.Fields.{is_name}
use Rattle.survey_core.specs.Tables.{IsNumbered, put, without_field, cells_of_field}
use Rattle.survey_sqlite.specs.Schemas.{no_schema}
use Rattle.survey_sqlite.specs.Statements.{create_text, replace_text, remove_text}
use Rattle.survey_sqlite.specs.Queries.{rows_text, names_text}
use Rattle.survey_sqlite.specs.Schemas.{source, source_schema}
use Rattle.survey_sqlite.specs.Blobs.{blob_cells}
use Rattle.survey_sqlite.specs.Source.{AreFieldRows, IsAtRest, tables_in}
use Rattle.survey_sqlite.specs.Turns.{Turns}
use Rattle.survey_sqlite.specs.Calls.{CountsFound}
use Rattle.survey_sqlite.specs.Calls.{AnswersCells, AnswersNames}
use Rattle.survey_sqlite.proofs.Compiled.{create_is, created_is, create_plain, replace_is, replace_plain, replace_command, remove_is}
use Rattle.survey_sqlite.proofs.Compiled.{remove_plain, remove_command, rows_is, rows_plain, rows_command, names_is, names_plain, names_command}
use Rattle.survey_sqlite.proofs.RowLemmas.{Replaces, Removes, replaced_rows, replaced_tables, removed_rows, removed_tables, cells_there, cells_not_there}
use Rattle.survey_sqlite.proofs.StatementLemmas.{went, same_value, inserts}
use Rattle.survey_sqlite.proofs.Deletion.{deletes}
use Rattle.survey_sqlite.proofs.Finding.{reads_cells}
use Rattle.survey_sqlite.proofs.Listing.{reads_names}

-- ---- refusals

-- a statement that is refused leaves the connection as it was, or rolls back what was not committed
command_kept : (old new : State) (sql : List ℕ) (params : Row) (c : Compiled) (e : Error) → RunsCommand old new sql c params (Err e)
    → IsUnchanged old new ⊎ IsRolledBack old new
command_kept old new sql params c e (inl h) = inl h.1
command_kept old new sql params c e (inr h) = inr h.3

pub not_run_kept : (old new : State) (sql : List ℕ) (params : Row) (e : Error) → IsNotRun old new sql params e → IsUnchanged old new ⊎ IsRolledBack old new
unfolding IsNotRun
not_run_kept old new sql params e (inl h) = inl h.1
not_run_kept old new sql params e (inr h) = inr h.3

alone_kept : (old new : State) (sql : List ℕ) (params : Row) (c : Compiled) (e : Error) → RunsAlone false old new sql c params (Err e)
    → IsUnchanged old new ⊎ IsRolledBack old new
alone_kept old new sql params c e h = go (shows_rows false c) h
  where
    go : (shows : Bool)
        → MatchBool shows ((◌≡◌ {A = Result ℕ Error} (Err e) (Err ExecuteReturnedResults)) × IsUnchanged old new) (RunsCommand old new sql c params (Err e))
        → IsUnchanged old new ⊎ IsRolledBack old new
    go true k = inl k.1
    go false k = command_kept old new sql params c e k

pub execute_kept : (sql : List ℕ) (params : Row) (old new : State) (e : Error) → Executes sql params old new (Err e)
    → IsUnchanged old new ⊎ IsRolledBack old new
unfolding ExecutesIn
execute_kept sql params old new e (inl h) = not_run_kept old new sql params e h
execute_kept sql params old new e (inr h) = alone_kept old new sql (timed params h.0.formats h.1.now) h.0 e h.2

pub kept_at_rest : (old new : State) → IsAtRest old → IsTrue new.is_open → IsUnchanged old new ⊎ IsRolledBack old new → IsAtRest new × (new.now ≡ old.now)
kept_at_rest old new rest still (inl h) =
    let same : new.now ≡ old.now = h.0.now_is in (
      record {
        is_open = still;
        settled = same ∙ rest.settled ∙ sym h.0.committed_is;
        autocommit = h.0.mode ∙ rest.autocommit;
        schema = ap (λ (d : Database). d.schema) same ∙ rest.schema;
        rows = subst (λ (d : Database). AreFieldRows (d.trees 0)) (sym same) rest.rows;
      },
      same,
    )
kept_at_rest old new rest still (inr h) =
    let both = h.undone still in
    let same : new.now ≡ old.now = both.0 ∙ sym rest.settled in (
      record {
        is_open = still;
        settled = both.0 ∙ sym both.1;
        autocommit = h.autocommit;
        schema = ap (λ (d : Database). d.schema) same ∙ rest.schema;
        rows = subst (λ (d : Database). AreFieldRows (d.trees 0)) (sym same) rest.rows;
      },
      same,
    )

-- ---- the schema

pub creates : (old new : State) (count : ℕ) → Opens old → old.now.schema ≡ no_schema → Executes create_text [] old new (Ok count)
    → IsAtRest new × (tables_in (new.now.trees 0) ≡ [])
creates old new count fresh has h =
    let w =
    subst (λ t. Writes old new Rattle.std.proofs.Common.None CreateTable t [] count) create_is.1
    (runs_as create_text [] old new no_schema has CreateTable create_is.0 create_plain count h) in
    let all = went w.changed in
    let first = went all.1 in
    let made = first.1 in
    let both : Ok made.table ≡ Ok source = sym made.defined ∙ create_is.2 in
    let same : made.table ≡ source = cc in
    let schema : first.0.schema ≡ source_schema = made.is ∙ ap (λ s. created s made.table) has ∙ ap (created no_schema) same ∙ created_is in
    let plain : lacks_sequence first.0.schema ≡ false = ap lacks_sequence schema in
    let now : new.now ≡ first.0 = ap (λ (p : Tally × Database). p.1) (same_value all.2) ∙ same_value (rw plain at first.2) in
    let empty : new.now.trees 0 ≡ [] = ap (λ (d : Database). d.trees 0) now ∙ subst (λ s. first.0.trees (next_tree s) ≡ []) has made.empty in (
      record {
        is_open = w.shown.is_open;
        settled = sym (w.shown.committed_is ∙ rw fresh.autocommit refl);
        autocommit = w.shown.mode ∙ fresh.autocommit;
        schema = ap (λ (d : Database). d.schema) now ∙ schema;
        rows = subst AreFieldRows (sym empty) (record { ordered = tt; formed = λ r m. absurd m; once = λ a b p q e. absurd p });
      },
      ap tables_in empty,
    )

-- ---- replace

pub replaces : (old new : State) (field blob : List ℕ) (count : ℕ) → IsAtRest old → is_name field ≡ true → IsNumbered (blob_cells blob)
    → Executes replace_text (Text field ∷ Blob blob ∷ []) old new (Ok count)
    → IsAtRest new × (tables_in (new.now.trees 0) ≡ put field (blob_cells blob) (tables_in (old.now.trees 0)))
replaces old new field blob count rest named numbered h =
    let params = Text field ∷ Blob blob ∷ [] in
    let db = old.now.trees in
    let w = runs_as replace_text params old new source_schema rest.schema replace_command replace_is replace_plain count h in
    let text = statement_of replace_text (understood source_schema replace_text) in
    let done =
    went (subst (λ s. Does old.step_limit (mode_of old) params (record old.now { schema = s }) text None replace_command
    (Ok (w.tally, new.now))) rest.schema w.changed) in
    let now = ap (λ (p : Tally × Database). p.1) (same_value (went (went done.2).2).2) in
    let trees : new.now.trees 0 ≡ done.0.trees 0 = ap (λ (d : Database). d.trees 0) now in
    let made = subst (Replaces (db 0) field blob) (sym trees) (inserts old.step_limit db rest.rows field blob done.0 done.1) in
    let rows = replaced_rows (db 0) rest.rows field (new.now.trees 0) blob made named numbered in (
      record {
        is_open = w.shown.is_open;
        settled = sym (w.shown.committed_is ∙ rw rest.autocommit refl);
        autocommit = w.shown.mode ∙ rest.autocommit;
        schema = ap (λ (d : Database). d.schema) now;
        rows = rows;
      },
      replaced_tables (db 0) rest.rows field (new.now.trees 0) blob made rows,
    )

-- ---- calls

-- told by what a call promises while the disk is clean
turned_err : (old new : State) (sql : List ℕ) (params : Row) (e : Error) → (HasCleanDisk new → Executes sql params old new (Err e))
    → Turns old new (λ tables. tables)
turned_err old new sql params e h clean still rest =
    let kept = kept_at_rest old new rest still (execute_kept sql params old new e (h clean)) in
    (kept.0, ap (λ (d : Database). tables_in (d.trees 0)) kept.1)

pub replace_turns : (old new : State) (field blob : List ℕ) (r : Result ℕ Error) → is_name field ≡ true → IsNumbered (blob_cells blob)
    → (HasCleanDisk new → Executes replace_text (Text field ∷ Blob blob ∷ []) old new r)
    → OnOk r (Turns old new (put field (blob_cells blob))) × OnErr r (Turns old new (λ tables. tables))
replace_turns old new field blob (Ok count) named numbered h = (λ clean still rest. replaces old new field blob count rest named numbered (h clean), tt)
replace_turns old new field blob (Err e) named numbered h = (tt, turned_err old new replace_text _ e h)

-- ---- remove

pub removes : (old new : State) (field : List ℕ) (count : ℕ) → IsAtRest old → Executes remove_text (Text field ∷ []) old new (Ok count)
    → IsAtRest new × (tables_in (new.now.trees 0) ≡ without_field field (tables_in (old.now.trees 0)))
    × ((count == 1) ≡ is_some (cells_of_field field (tables_in (old.now.trees 0))))
removes old new field count rest h =
    let params = Text field ∷ [] in
    let db = old.now.trees in
    let w = runs_as remove_text params old new source_schema rest.schema remove_command remove_is remove_plain count h in
    let text = statement_of remove_text (understood source_schema remove_text) in
    let done =
    went (subst (λ s. Does old.step_limit (mode_of old) params (record old.now { schema = s }) text None remove_command
    (Ok (w.tally, new.now))) rest.schema w.changed) in
    let last = same_value (went (went done.2).2).2 in
    let now = ap (λ (p : Tally × Database). p.1) last in
    let trees : new.now.trees 0 ≡ done.0.trees 0 = ap (λ (d : Database). d.trees 0) now in
    let both = deletes old.step_limit db rest.rows field done.0 done.1 in
    let made = subst (Removes (db 0) field) (sym trees) both.0 in
    let counted : count ≡ length done.0.rows = w.counted ∙ ap (λ (p : Tally × Database). unwrap_or p.0.rows 0) last in (
      record {
        is_open = w.shown.is_open;
        settled = sym (w.shown.committed_is ∙ rw rest.autocommit refl);
        autocommit = w.shown.mode ∙ rest.autocommit;
        schema = ap (λ (d : Database). d.schema) now;
        rows = removed_rows (db 0) rest.rows field (new.now.trees 0) made;
      },
      removed_tables (db 0) rest.rows field (new.now.trees 0) made,
      elim both.1 [
        | inl it ↦ rw (counted ∙ it.2, cells_there (db 0) rest.rows field it.0 it.1) refl
        | inr none ↦ rw (counted ∙ none.1, cells_not_there (db 0) field none.0) refl
      ],
    )

pub remove_turns : (old new : State) (field : List ℕ) (r : Result ℕ Error) → (HasCleanDisk new → Executes remove_text (Text field ∷ []) old new r)
    → OnOk r (Turns old new (without_field field)) × IfOk r (CountsFound old new field) × OnErr r (Turns old new (λ tables. tables))
remove_turns old new field (Ok count) h = (
  λ clean still rest. let out = removes old new field count rest (h clean) in (out.0, out.1),
  λ clean rest. (removes old new field count rest (h clean)).2,
  tt,
)
remove_turns old new field (Err e) h = (tt, tt, turned_err old new remove_text _ e h)

-- ---- rows

shown_kept : (sql : List ℕ) (params : Row) (old new : State) (rows : List Row) → IsPlain (understood old.now.schema sql) → Shown sql params old new rows
    → IsUnchanged old new
unfolding Shown
shown_kept sql params old new rows plain h =
    let none = (subst IsPlain h.1.is plain).0 in
    (subst (ShowsRows old new sql h.0 (timed params h.0.formats h.1.now) rows) none h.2).3

query_kept : (sql : List ℕ) (params : Row) (old new : State) (e : Error) → IsPlain (understood old.now.schema sql) → FailsToQuery sql params old new e
    → IsUnchanged old new ⊎ IsRolledBack old new
unfolding FailsToQuery
query_kept sql params old new e plain (inl h) = not_run_kept old new sql params e h
query_kept sql params old new e plain (inr h) =
    let none = (subst IsPlain h.1.is plain).0 in
    inl (subst (FailsToShow old new sql h.0 (timed params h.0.formats h.1.now) e) none h.2).3

turned_by : (old new : State) → (HasCleanDisk new → IsAtRest old → IsUnchanged old new ⊎ IsRolledBack old new) → Turns old new (λ tables. tables)
turned_by old new h clean still rest =
    let kept = kept_at_rest old new rest still (h clean rest) in
    (kept.0, ap (λ (d : Database). tables_in (d.trees 0)) kept.1)

pub query_turns : {X : Type 0} (items : X → List Row) (old new : State) (sql : List ℕ) (params : Row) (r : Result X Error)
    → IsPlain (understood source_schema sql)
    → (HasCleanDisk new → IfOk r (λ x. Shown sql params old new (items x))) → (HasCleanDisk new → IfErr r (FailsToQuery sql params old new))
    → Turns old new (λ tables. tables)
query_turns items old new sql params (Ok x) plain ok err =
    turned_by old new (λ clean rest. inl (shown_kept sql params old new (items x) (subst (λ s. IsPlain (understood s sql)) (sym rest.schema) plain) (ok clean)))
query_turns items old new sql params (Err e) plain ok err =
    turned_by old new (λ clean rest. query_kept sql params old new e (subst (λ s. IsPlain (understood s sql)) (sym rest.schema) plain) (err clean))

pub rows_turn : {X : Type 0} (items : X → List Row) (old new : State) (field : List ℕ) (r : Result X Error)
    → (HasCleanDisk new → IfOk r (λ x. Shown rows_text (Text field ∷ []) old new (items x)))
    → IfOk r (λ x. AnswersCells old new field (items x))
rows_turn items old new field (Ok x) h =
    λ clean rest. reads_cells old.now rest.rows field (items x)
    (reads_as rows_text (Text field ∷ []) old new source_schema rest.schema rows_command rows_is.0 rows_plain rows_is.1 (items x) (h clean))
rows_turn items old new field (Err e) h = tt

-- ---- the table

pub table_turns : (old new : State) (r : Result ℕ Error) → (HasCleanDisk new → Executes create_text [] old new r)
    → HasCleanDisk new → OnOk r (Opens old → old.now.schema ≡ no_schema → IsAtRest new × (tables_in (new.now.trees 0) ≡ []))
table_turns old new (Ok count) h clean = λ fresh has. creates old new count fresh has (h clean)
table_turns old new (Err e) h clean = tt

-- ---- names

pub names_turn : {X : Type 0} (items : X → List Row) (old new : State) (r : Result X Error)
    → (HasCleanDisk new → IfOk r (λ x. Shown names_text [] old new (items x))) → IfOk r (λ x. AnswersNames old new (items x))
names_turn items old new (Ok x) h =
    λ clean rest. reads_names old.now rest.rows (items x)
    (reads_as names_text [] old new source_schema rest.schema names_command names_is.0 names_plain names_is.1 (items x) (h clean))
names_turn items old new (Err e) h = tt
