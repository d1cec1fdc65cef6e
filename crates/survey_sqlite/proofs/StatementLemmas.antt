-- What the statements make of the rows of `source`.
use Rattle.std.proofs.Common.{◌≡◌, ◌≢◌, ◌⊎◌, inl, inr, ℕ, ℤ, Bool, true, false, not, ◌&&◌, ◌||◌, List, [], ◌∷◌, ◌++◌, filter, Some, None}
use Rattle.std.proofs.Common.{Option, Ok, Err, Result, refl, sym, ap, ap₂, subst, ◌∙◌, arith, Ordering, Less, Equal, Greater, int_cmp, is_eq}
use Rattle.std.proofs.lemmas.Bool.{cases_Bool}
use Rattle.std.proofs.lemmas.Cmp.{tied_itself}
use Rattle.sqlite.specs.declared.types.Value.{Value}
use Rattle.sqlite.specs.declared.types.Value.TheVariants.{Null, Int, Text, Blob}
use Rattle.sqlite.specs.Order.{Row, column}
use Rattle.sqlite_value.specs.Order.{value_cmp}
use Rattle.sqlite_value.proofs.OrderLemmas.{value_cmp_total, value_cmp-Int}
use Rattle.sqlite_value.proofs.KeyLemmas.{first_key-plain}
use Rattle.sqlite.specs.Term.{lit, col}
use Rattle.sqlite.specs.Ops.{binary, is_true}
use Rattle.sqlite.specs.Collation.TheVariants.{Binary}
use Rattle.sqlite_sql.specs.declared.ops.BinaryOp.TheVariants.{Compare}
use Rattle.sqlite_sql.specs.declared.ops.CompareOp.TheVariants.{Eq}
use Rattle.std.proofs.lemmas.Cmp.{int_cmp_total}
use Rattle.std.proofs.lemmas.Bool.{and_parts}
use Rattle.std.proofs.lemmas.Bool.Decides.{nat_tests}
use Rattle.std.proofs.lemmas.Int.{ints}
use Rattle.sqlite.specs.Query.{IsAnswer}
use Rattle.sqlite.specs.Program.{overlay}
use Rattle.sqlite.specs.Tree.{Trees, IsTable}
use Rattle.sqlite_trees.specs.Tree.{rowid, has_rowid, without_rowid}
use Rattle.sqlite_trees.proofs.TreeLemmas.{IsTable-put_row}
use Rattle.sqlite_trees.proofs.ListLemmas.{ascending-filter}
use Rattle.sqlite.specs.Edit.{edit_of, put_all, are_fresh}
use Rattle.sqlite_rules.specs.Edit.{next_rowid, with_rowid}
use Rattle.sqlite_rules.specs.declared.error.Refusal.{Refusal}
use Rattle.sqlite.specs.Cast.{cast_row}
use Rattle.sqlite.specs.Rowids.TheVariants.{Chosen, Given}
use Rattle.sqlite_rules.specs.Lists.{Has}
use Rattle.sqlite_rules.specs.Keys.{conflicts, AreConflicts}
use Rattle.sqlite_rules.specs.Calls.{ids_of}
use Rattle.sqlite_rules.proofs.ListLemmas.{all_has, has_filtered, has_kept}
use Rattle.sqlite_rules.proofs.TableLemmas.{put_all_has, put_all_keeps, put_all_adds}
use Rattle.sqlite_rules.proofs.PlaceLemmas.{tied_same}
use Rattle.sqlite_schema.specs.declared.schema.Keys.TheVariants.{Enforced}
use Rattle.sqlite_schema.specs.declared.command.Conflict.TheVariants.{Abort}
use Rattle.sqlite.specs.Source.TheVariants.{Values}
use Rattle.sqlite.specs.Rows.{Written, Task, Then, Puts, Clears, Updates, Meets, Upserts, Judged, Tries, TriesEach, InsertsOr, count_of, nothing, joined}
use Rattle.sqlite.specs.declared.error.Error.{Error}
use Rattle.sqlite.proofs.Callers.{one_step}
use Rattle.survey_core.specs.Fields.{name_cmp}
use Rattle.survey_core.proofs.Exported.{same_name, name_itself}
use Rattle.survey_sqlite.specs.Schemas.{source, source_schema}
use Rattle.survey_sqlite.specs.Source.{row_field, IsFormed, AreFieldRows}
use Rattle.survey_sqlite.proofs.Compiled.{alone, update_query, upsert}
use Rattle.survey_sqlite.proofs.RowLemmas.{Replaces, below_itself}
use Rattle.survey_sqlite.proofs.TestLemmas.{cast_null, cast_int, equal_texts, equal_ints, answers_one}

-- a part that gave a value did not stop on the way
pub went : {B E R : Type 0} {b : B} {Stops : E → Type 0} → ((stop : E) × Stops stop × (Ok b ≡ Err stop)) ⊎ R → R
went (inl stopped) = absurd (let e = stopped.2 in cc)
went (inr on) = on

pub same_value : {B E : Type 0} {a b : B} → ◌≡◌ {A = Result B E} (Ok a) (Ok b) → a ≡ b
same_value e = cc

-- ---- one row of a table

pub filter_nothing : (p : Row → Bool) (rows : List Row) → ((x : Row) → Has rows x → p x ≡ false) → filter p rows ≡ []
filter_nothing p [] h = refl
filter_nothing p (x ∷ rows) h = rw (h x (inl refl)) (filter_nothing p rows (λ y m. h y (inr m)))

pub filter_one : (p : Row → Bool) (rows : List Row) → IsTable rows → (r : Row) → Has rows r → p r ≡ true → ((x : Row) → Has rows x → p x ≡ true → x ≡ r)
    → filter p rows ≡ r ∷ []
filter_one p [] up r m h only = absurd m
filter_one p (x ∷ rows) up r m h only = go m (filter_one p rows up.1 r) (cases_Bool (p x))
  where
    apart : (y : Row) → Has rows y → x ≡ y → ⊥
    apart y n e = below_itself x (subst (λ z. value_cmp (rowid x) (rowid z) ≡ Less) (sym e) (all_has (λ z. value_cmp (rowid x) (rowid z) ≡ Less) rows y up.0 n))

    fails : (y : Row) → Has rows y → r ≡ x → p y ≡ false
    fails y n e = elim (cases_Bool (p y)) [ inl yes_it ↦ absurd (apart y n (sym e ∙ sym (only y (inr n) yes_it))) | inr no_it ↦ no_it ]

    go : Has (x ∷ rows) r → (Has rows r → p r ≡ true → ((y : Row) → Has rows y → p y ≡ true → y ≡ r) → filter p rows ≡ r ∷ []) → (p x ≡ true) ⊎ (p x ≡ false)
        → filter p (x ∷ rows) ≡ r ∷ []
    go (inl e) more (inl yes_it) = rw yes_it (ap₂ ◌∷◌ (sym e) (filter_nothing p rows (λ y n. fails y n e)))
    go (inl e) more (inr no_it) = absurd (let t = ap p (sym e) ∙ h in let bad : true ≡ false = sym t ∙ no_it in cc)
    go (inr n) more (inl yes_it) = absurd (apart r n (only x (inl refl) yes_it))
    go (inr n) more (inr no_it) = rw no_it (more n h (λ y k t. only y (inr k) t))

-- ---- conflicts

alone_or : (b : Bool) → ((b && true) || false) ≡ b
alone_or true = refl
alone_or false = refl

pub conflict_is : (g f : List ℕ) (u v : Value) (c d : List ℕ)
    → conflicts (Some (1 ∷ [])) source_schema.indexes source (v ∷ Text f ∷ Blob d ∷ []) (u ∷ Text g ∷ Blob c ∷ []) ≡ is_eq (name_cmp g f)
conflict_is g f u v c d = rw first_key-plain (alone_or _ ∙ equal_texts g f)

pub same_from_test : (g f : List ℕ) → is_eq (name_cmp g f) ≡ true → g ≡ f
same_from_test g f h = go (name_cmp g f) refl h
  where
    go : (o : Ordering) → name_cmp g f ≡ o → is_eq o ≡ true → g ≡ f
    go Less e t = absurd (cc)
    go Equal e t = same_name g f e
    go Greater e t = absurd (cc)

pub test_from_same : (g f : List ℕ) → g ≡ f → is_eq (name_cmp g f) ≡ true
test_from_same g f e = rw e (ap is_eq (name_itself f))

-- ---- INSERT and its UPDATE, of one row

module _ (limit : Option ℕ) (db : Trees) (are : AreFieldRows (db 0)) (field blob : List ℕ) where
  abbrev params : Row
  params = Text field ∷ Blob blob ∷ []

  abbrev task : Task
  task = record { limit = limit; keys = Enforced; schema = source_schema; table = source; params = params }

  abbrev new_row : ℤ → Row
  new_row id = Int id ∷ Text field ∷ Blob blob ∷ []

  -- a row that is put where no row has its field
  pub puts : (id : ℤ) (w : Written) → ((r : Row) → Has (db 0) r → row_field r ≢ field) → Puts task (new_row id) db (Ok w)
      → Replaces (db 0) field blob (w.trees 0)
  puts id w none h =
      let done = went h in
      let edit = edit_of db source [] Given 0 (new_row id ∷ []) in
      let applied = one_step source_schema Enforced db done.0 edit refl done.1 in
      let news : edit.news ≡ new_row id ∷ [] = rw cast_int refl in
      let fresh : are_fresh (db 0) (new_row id ∷ []) ≡ true = subst (λ n. are_fresh (db 0) n ≡ true) news applied.fresh in
      let rows : w.trees 0 ≡ put_all (db 0) (new_row id ∷ []) = ap (λ (x : Written). x.trees 0) (same_value done.2) ∙ applied.rows ∙ ap (put_all (db 0)) news in
      subst (Replaces (db 0) field blob) (sym rows) (record {
        ordered = IsTable-put_row (new_row id) (db 0) are.ordered;
        id = id;
        there = put_all_adds (new_row id ∷ []) (db 0) (new_row id) fresh (inl refl);
        keeps = λ r m other. put_all_keeps (new_row id ∷ []) (db 0) r fresh m;
        from = λ r m. elim (put_all_has (new_row id ∷ []) (db 0) r m) [
          | inl e ↦ elim e [ inl same ↦ inl same | inr bad ↦ absurd bad ]
          | inr k ↦ inr (k, none r k)
        ];
      })

  abbrev has_id : Row → ℤ → Bool
  has_id r id = is_true (binary (Compare Eq Binary) (column r 0) (Int id)) && true

  id_passes : (id : ℤ) (r : Row) → column r 0 ≡ Int id → has_id r id ≡ true
  id_passes id r e = rw (e, equal_ints id id, tied_itself int_cmp_total id) refl

  same_id : (m n : ℤ) → is_eq (int_cmp m n) ≡ true → m ≡ n
  same_id m n h = grind (arith, ints, nat_tests)

  id_decides : (id : ℤ) (r : Row) → IsFormed r → has_id r id ≡ true → column r 0 ≡ Int id
  id_decides id r f h =
      let at : column r 0 ≡ Int f.id = ap (λ (x : Row). column x 0) f.is in
      let t : is_eq (int_cmp f.id id) ≡ true = sym (equal_ints f.id id) ∙ (and_parts _ _ (rw at at h)).0 in
      at ∙ ap Int (same_id f.id id t)

  -- rows with the same rowid are the same
  pub same_row : (id : ℤ) (a b : Row) → Has (db 0) a → Has (db 0) b → column a 0 ≡ Int id → column b 0 ≡ Int id → a ≡ b
  same_row id a b p q e d = tied_same (db 0) a b are.ordered p q (rw (e, d) (tied_itself value_cmp_total (Int id)))

  -- the rows of the statement's UPDATE are one, the row of the field
  updated_rows : (id next : ℤ) (old : List ℕ) → Has (db 0) (Int id ∷ Text field ∷ Blob old ∷ []) → (rows : List Row)
      → IsAnswer update_query (overlay db []) (params ++ Int id ∷ Int next ∷ Text field ∷ Blob blob ∷ []) rows
      → rows ≡ (Int id ∷ new_row id) ∷ []
  updated_rows id next old m rows a =
      let there : Row = Int id ∷ Text field ∷ Blob old ∷ [] in
      answers_one _ _ (overlay db []) (params ++ Int id ∷ Int next ∷ Text field ∷ Blob blob ∷ []) rows there
      (filter_one _ (db 0) are.ordered there m (id_passes id there refl) (λ x n t. same_row id x there n m (id_decides id x (are.formed x n) t) refl)) a

  pub keeps_rowid : (id : ℤ) (r : Row) → Has (db 0) r → not (has_rowid id r) ≡ true → column r 0 ≢ Int id
  keeps_rowid id r m h e = let bad : true ≡ false = sym h ∙ rw (e, tied_itself value_cmp_total (Int id)) refl in cc

  pub drops_rowid : (id : ℤ) (r : Row) → IsFormed r → column r 0 ≢ Int id → not (has_rowid id r) ≡ true
  drops_rowid id r f other = elim (cases_Bool (has_rowid id r)) [
    | inl yes_it ↦ absurd (let at : column r 0 ≡ Int f.id = ap (λ (x : Row). column x 0) f.is in
        let t : is_eq (int_cmp f.id id) ≡ true = sym (ap is_eq (value_cmp-Int f.id id)) ∙ (rw at at yes_it) in other (at ∙ ap Int (same_id f.id id t)))
    | inr no_it ↦ rw no_it refl
  ]

  -- the row of the field is replaced in its place
  pub updates : (id next : ℤ) (old : List ℕ) (w : Written) → Has (db 0) (Int id ∷ Text field ∷ Blob old ∷ [])
      → Updates task (alone update_query) (params ++ Int id ∷ Int next ∷ Text field ∷ Blob blob ∷ []) db (Ok w) → Replaces (db 0) field blob (w.trees 0)
  updates id next old w m h =
      let read = went h in
      let got : read.0 ≡ (Int id ∷ new_row id) ∷ [] = updated_rows id next old m read.0 (read.1.answer Null) in
      let done = went (subst (λ rs. Then (Rattle.sqlite.specs.Rows.Edited source_schema Enforced db (edit_of db source (ids_of rs) Given 1 rs))
      (λ n. Rattle.sqlite.specs.Rows.Gives (record { trees = n; rows = (edit_of db source (ids_of rs) Given 1 rs).news; last = None })) (Ok w)) got read.2) in
      let edit = edit_of db source (id ∷ []) Given 1 ((Int id ∷ new_row id) ∷ []) in
      let applied = one_step source_schema Enforced db done.0 edit refl done.1 in
      let news : edit.news ≡ new_row id ∷ [] = rw cast_int refl in
      let left = without_rowid id (db 0) in
      let fresh : are_fresh left (new_row id ∷ []) ≡ true = subst (λ n. are_fresh left n ≡ true) news applied.fresh in
      let rows : w.trees 0 ≡ put_all left (new_row id ∷ []) = ap (λ (x : Written). x.trees 0) (same_value done.2) ∙ applied.rows ∙ ap (put_all left) news in
      let there : Row = Int id ∷ Text field ∷ Blob old ∷ [] in
      subst (Replaces (db 0) field blob) (sym rows) (record {
        ordered = IsTable-put_row (new_row id) left (ascending-filter _ _ (db 0) are.ordered);
        id = id;
        there = put_all_adds (new_row id ∷ []) left (new_row id) fresh (inl refl);
        keeps = λ r k other. put_all_keeps (new_row id ∷ []) left r fresh (has_kept (λ x. not (has_rowid id x)) (db 0) r k
            (drops_rowid id r (are.formed r k) (λ e. other (ap row_field (same_row id r there k m e refl)))));
        from = λ r k. elim (put_all_has (new_row id ∷ []) left r k) [
          | inl e ↦ elim e [ inl same ↦ inl same | inr bad ↦ absurd bad ]
          | inr n ↦ let both = has_filtered (λ x. not (has_rowid id x)) (db 0) r n in
              inr (both.0, λ same. keeps_rowid id r both.0 both.1 (ap (λ (x : Row). column x 0) (are.once r there both.0 m same)))
        ];
      })

  -- ---- the whole INSERT

  clears : (id : ℤ) (w : Written) (found : List Row) → ((r : Row) → Has (db 0) r → row_field r ≢ field) → Clears task Abort (new_row id) db found (Ok w)
      → Replaces (db 0) field blob (w.trees 0)
  clears id w [] none h = puts id w none h
  clears id w (x ∷ found) none h = puts id w none h

  conflict_of : (id : ℤ) (r : Row) → IsFormed r → conflicts (Some (1 ∷ [])) source_schema.indexes source (new_row id) r ≡ is_eq (name_cmp (row_field r) field)
  conflict_of id r f =
      subst (λ x. conflicts (Some (1 ∷ [])) source_schema.indexes source (new_row id) x ≡ is_eq (name_cmp (row_field x) field)) (sym f.is)
      (conflict_is f.field field (Int f.id) (Int id) f.blob blob)

  upserts : (id : ℤ) (w : Written) → Upserts task Abort (new_row id) db (upsert ∷ []) (Ok w) → Replaces (db 0) field blob (w.trees 0)
  upserts id w h = go h.0 h.1 h.2
    where
      go : (found : List Row) → AreConflicts (Some (1 ∷ [])) source_schema.indexes source (db 0) (new_row id) found
          → Meets task (Upserts task Abort (new_row id) db []) (new_row id) db upsert found (Ok w)
          → Replaces (db 0) field blob (w.trees 0)
      go [] are_they met =
          clears id w met.0 (λ r m same. are_they.complete r m (conflict_of id r (are.formed r m) ∙ test_from_same (row_field r) field same)) met.2
      go (x ∷ more) are_they met =
          let it = are_they.sound x (inl refl) in
          let f = are.formed it.0 it.1 in
          let same : f.field ≡ field = sym (ap row_field f.is) ∙ same_from_test (row_field it.0) field (sym (conflict_of id it.0 f) ∙ it.2) in
          let row : it.0 ≡ Int f.id ∷ Text field ∷ Blob f.blob ∷ [] = f.is ∙ ap (λ g. Int f.id ∷ Text g ∷ Blob f.blob ∷ []) same in
          let key : x ≡ Int f.id ∷ [] = it.3 ∙ ap (λ (r : Row). column r 0 ∷ []) row in
          updates f.id id f.blob w (subst (Has (db 0)) row it.1)
          (subst (λ y. Updates task (alone update_query) (params ++ column y 0 ∷ Int id ∷ Text field ∷ Blob blob ∷ []) db (Ok w)) key met)

  tried : (id : ℤ) (one : Written) → Tries task Abort (upsert ∷ []) (new_row id) db (Ok one) → Replaces (db 0) field blob (one.trees 0)
  tried id one (inl refused) = absurd (let e = refused.1 in cc)
  tried id one (inr judged) = go judged.0 judged.2
    where
      go : (verdict : Option Refusal) → Judged task Abort (upsert ∷ []) (new_row id) db verdict (Ok one) → Replaces (db 0) field blob (one.trees 0)
      go None h = upserts id one h
      go (Some why) h = absurd (let e : ◌≡◌ {A = Result Written (Option Error)} (Ok one) (Err (Some _)) = h in cc)

  pub inserts : (w : Written) → InsertsOr task Abort (upsert ∷ []) (Values (lit Null ∷ col 0 0 ∷ col 0 1 ∷ []) 3) db (Ok w)
      → Replaces (db 0) field blob (w.trees 0)
  inserts w h =
      let given = went h in
      let counter = went given.2 in
      let each = went counter.2 in
      let counted = went each.2 in
      let one_row = Null ∷ Text field ∷ Blob blob ∷ [] in
      let top = count_of counter.0 in
      let first = went (subst (λ rs. TriesEach task Abort (upsert ∷ []) rs top (nothing db) (Ok each.0)) given.1.1 each.1) in
      let new : with_rowid Chosen (db 0) (cast_row source one_row) ≡ new_row (next_rowid (db 0)) = rw cast_null refl in
      let done : Replaces (db 0) field blob (first.0.trees 0) =
      tried (next_rowid (db 0)) first.0 (subst (λ r. Tries task Abort (upsert ∷ []) r db (Ok first.0)) new first.1) in
      let written : each.0.0 ≡ joined (nothing db) first.0 = ap (λ (p : Written × ℤ). p.0) (same_value first.2) in
      let trees : w.trees ≡ first.0.trees =
      ap (λ (x : Written). x.trees) (same_value counted.2) ∙ same_value counted.1 ∙ ap (λ (x : Written). x.trees) written in
      subst (λ (t : Trees). Replaces (db 0) field blob (t 0)) (sym trees) done
