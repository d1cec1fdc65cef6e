-- Rows of the table `source` as tables of fields.
use Rattle.std.proofs.Common.{◌≡◌, ◌≢◌, ◌⊎◌, inl, inr, ℕ, ℤ, true, List, [], ◌∷◌, Some, None, refl, sym, ap, subst, ◌∙◌, Ordering, Less, Equal, Greater}
use Rattle.sqlite.specs.declared.types.Value.TheVariants.{Int, Text, Blob}
use Rattle.sqlite.specs.Order.{Row, column, bytes}
use Rattle.sqlite.specs.Tree.{IsTable}
use Rattle.sqlite_value.specs.Order.{value_cmp}
use Rattle.sqlite_value.proofs.OrderLemmas.{value_cmp_total}
use Rattle.sqlite_trees.specs.Tree.{rowid}
use Rattle.std.proofs.lemmas.Cmp.{tied_itself}
use Rattle.sqlite_rules.specs.Lists.{Has}
use Rattle.sqlite_rules.proofs.ListLemmas.{all_has}
use Rattle.survey_core.specs.Fields.{is_name, name_cmp}
use Rattle.survey_core.specs.Tables.{Table, IsFieldTable as IsField, AreTables, AreInOrder, cells_of_field, put, without_field, IsNumbered}
use Rattle.survey_core.proofs.Exported.{Among, put_there, put_keeps, put_from, order_put, all_from, same_tables, name_itself}
use Rattle.survey_core.proofs.Exported.{without_from, without_keeps, order_without, cells_found, cells_missing, same_name}
use Rattle.survey_sqlite.specs.Blobs.{blob_cells}
use Rattle.survey_sqlite.specs.Source.{row_field, entry, tables_in, IsFormed, AreFieldRows}

pub tables_ordered : (rows : List Row) → AreInOrder (tables_in rows)
tables_ordered [] = tt
tables_ordered (r ∷ rows) = order_put _ _ (tables_in rows) (tables_ordered rows)

pub table_from : (rows : List Row) (t : Table) → Among (tables_in rows) t → (r : Row) × Has rows r × (t ≡ entry r)
table_from [] t m = absurd m
table_from (r ∷ rows) t m = elim (put_from _ _ (tables_in rows) t (tables_ordered rows) m) [
  | inl e ↦ (r, inl refl, e)
  | inr k ↦ let more = table_from rows t k.0 in (more.0, inr more.1, more.2)
]

pub below_itself : (r : Row) → value_cmp (rowid r) (rowid r) ≡ Less → ⊥
below_itself r h = let itself = tied_itself value_cmp_total (rowid r) in let bad : Less ≡ Equal = sym h ∙ itself in cc

table_there_in : (rows : List Row) → IsTable rows → ((a b : Row) → Has rows a → Has rows b → row_field a ≡ row_field b → a ≡ b) → (r : Row) → Has rows r
    → Among (tables_in rows) (entry r)
table_there_in [] up once r m = absurd m
table_there_in (x ∷ rows) up once r (inl e) =
    subst (λ y. Among (tables_in (x ∷ rows)) (entry y)) (sym e) (put_there (row_field x) (blob_cells (bytes (column x 2))) (tables_in rows))
table_there_in (x ∷ rows) up once r (inr m) =
    put_keeps (row_field x) (blob_cells (bytes (column x 2))) (tables_in rows) (entry r) (table_there_in rows up.1 (λ a b p q. once a b (inr p) (inr q)) r m)
    (λ same. let alike : r ≡ x = once r x (inr m) (inl refl) same in
    below_itself x (subst (λ y. value_cmp (rowid x) (rowid y) ≡ Less) alike (all_has (λ y. value_cmp (rowid x) (rowid y) ≡ Less) rows r up.0 m)))

pub table_there : (rows : List Row) → AreFieldRows rows → (r : Row) → Has rows r → Among (tables_in rows) (entry r)
table_there rows are = table_there_in rows are.ordered are.once

entry_formed : (r : Row) → IsFormed r → IsField (entry r)
entry_formed r f = subst (λ x. IsField (entry x)) (sym f.is) (f.named, f.numbered)

pub tables_are : (rows : List Row) → AreFieldRows rows → AreTables (tables_in rows)
tables_are rows are = (
  tables_ordered rows,
  all_from IsField (tables_in rows)
      (λ t m. let r = table_from rows t m in subst IsField (sym r.2) (entry_formed r.0 (are.formed r.0 r.1))),
)

-- ---- what a statement makes of the rows

-- a row for the field in place of any that was there
pub record Replaces (rows : List Row) (field blob : List ℕ) (after : List Row) : Type 0 where
  pub ordered : IsTable after
  pub id : ℤ
  pub there : Has after (Int id ∷ Text field ∷ Blob blob ∷ [])
  pub keeps : (r : Row) → Has rows r → row_field r ≢ field → Has after r
  pub from : (r : Row) → Has after r → (r ≡ Int id ∷ Text field ∷ Blob blob ∷ []) ⊎ (Has rows r × (row_field r ≢ field))

pub record Removes (rows : List Row) (field : List ℕ) (after : List Row) : Type 0 where
  pub ordered : IsTable after
  pub keeps : (r : Row) → Has rows r → row_field r ≢ field → Has after r
  pub from : (r : Row) → Has after r → Has rows r × (row_field r ≢ field)

module _ (rows : List Row) (are : AreFieldRows rows) (field : List ℕ) (after : List Row) where
  pub replaced_rows : (blob : List ℕ) → Replaces rows field blob after → is_name field ≡ true → IsNumbered (blob_cells blob) → AreFieldRows after
  replaced_rows blob done named numbered = record {
    ordered = done.ordered;
    formed = λ r m. elim (done.from r m) [
      | inl e ↦ record { id = done.id; field = field; blob = blob; is = e; named = named; numbered = numbered }
      | inr k ↦ are.formed r k.0
    ];
    once = λ a b p q same. elim (done.from a p) [
      | inl e ↦ elim (done.from b q) [
        | inl d ↦ e ∙ sym d
        | inr k ↦ absurd (k.1 (sym same ∙ ap row_field e))
      ]
      | inr j ↦ elim (done.from b q) [
        | inl d ↦ absurd (j.1 (same ∙ ap row_field d))
        | inr k ↦ are.once a b j.0 k.0 same
      ]
    ];
  }

  pub replaced_tables : (blob : List ℕ) → Replaces rows field blob after → AreFieldRows after → tables_in after ≡ put field (blob_cells blob) (tables_in rows)
  replaced_tables blob done now = same_tables _ _ (tables_ordered after) (order_put field (blob_cells blob) (tables_in rows) (tables_ordered rows))
      (λ t m. let r = table_from after t m in elim (done.from r.0 r.1) [
        | inl e ↦ subst (Among (put field (blob_cells blob) (tables_in rows))) (sym (r.2 ∙ ap entry e)) (put_there field (blob_cells blob) (tables_in rows))
        | inr k ↦ put_keeps field (blob_cells blob) (tables_in rows) t (subst (Among (tables_in rows)) (sym r.2) (table_there rows are r.0 k.0))
            (λ same. k.1 (sym (ap (λ (v : Table). v.0) r.2) ∙ same))
      ])
      (λ t m. elim (put_from field (blob_cells blob) (tables_in rows) t (tables_ordered rows) m) [
        | inl e ↦ subst (Among (tables_in after)) (sym e) (table_there after now _ done.there)
        | inr k ↦ let r = table_from rows t k.0 in
            subst (Among (tables_in after)) (sym r.2) (table_there after now r.0 (done.keeps r.0 r.1 (λ same. k.1 (ap (λ (v : Table). v.0) r.2 ∙ same))))
      ])

  pub removed_rows : Removes rows field after → AreFieldRows after
  removed_rows done = record {
    ordered = done.ordered;
    formed = λ r m. are.formed r (done.from r m).0;
    once = λ a b p q same. are.once a b (done.from a p).0 (done.from b q).0 same;
  }

  pub removed_tables : Removes rows field after → tables_in after ≡ without_field field (tables_in rows)
  removed_tables done = same_tables _ _ (tables_ordered after) (order_without field (tables_in rows) (tables_ordered rows))
      (λ t m. let r = table_from after t m in let k = done.from r.0 r.1 in
      without_keeps field (tables_in rows) t (subst (Among (tables_in rows)) (sym r.2) (table_there rows are r.0 k.0))
      (λ same. k.1 (sym (ap (λ (v : Table). v.0) r.2) ∙ same)))
      (λ t m. let k = without_from field (tables_in rows) t m in let r = table_from rows t k.0 in
      subst (Among (tables_in after)) (sym r.2)
      (table_there after (removed_rows done) r.0 (done.keeps r.0 r.1 (λ same. k.1 (ap (λ (v : Table). v.0) r.2 ∙ same)))))

-- ---- the row of a field

pub record IsRowOf (rows : List Row) (field : List ℕ) (row : Row) : Type 0 where
  pub there : Has rows row
  pub field_is : row_field row ≡ field

pub find_row : (rows : List Row) (field : List ℕ) → ((r : Row) × IsRowOf rows field r) ⊎ ((r : Row) → Has rows r → row_field r ≢ field)
find_row [] field = inr (λ r m. absurd m)
find_row (x ∷ rows) field = go (find_row rows field) (name_cmp (row_field x) field) refl
  where
    apart : (o : Ordering) → name_cmp (row_field x) field ≡ o → (o ≡ Equal → ⊥) → row_field x ≢ field
    apart o e other same = other (sym e ∙ subst (λ f. name_cmp f field ≡ Equal) (sym same) (name_itself field))

    step : ((r : Row) × IsRowOf rows field r) ⊎ ((r : Row) → Has rows r → row_field r ≢ field) → row_field x ≢ field
        → ((r : Row) × IsRowOf (x ∷ rows) field r) ⊎ ((r : Row) → Has (x ∷ rows) r → row_field r ≢ field)
    step (inl k) other = inl (k.0, record { there = inr k.1.there; field_is = k.1.field_is })
    step (inr none) other = inr (λ r m. elim m [ inl e ↦ (λ same. other (ap row_field (sym e) ∙ same)) | inr n ↦ none r n ])

    go : ((r : Row) × IsRowOf rows field r) ⊎ ((r : Row) → Has rows r → row_field r ≢ field) → (o : Ordering) → name_cmp (row_field x) field ≡ o
        → ((r : Row) × IsRowOf (x ∷ rows) field r) ⊎ ((r : Row) → Has (x ∷ rows) r → row_field r ≢ field)
    go more Less e = step more (apart Less e (λ bad. cc))
    go more Equal e = inl (x, record { there = inl refl; field_is = same_name (row_field x) field e })
    go more Greater e = step more (apart Greater e (λ bad. cc))

pub cells_there : (rows : List Row) → AreFieldRows rows → (field : List ℕ) (r : Row) → IsRowOf rows field r
    → cells_of_field field (tables_in rows) ≡ Some (blob_cells (bytes (column r 2)))
cells_there rows are field r it =
    subst (λ f. cells_of_field f (tables_in rows) ≡ Some (blob_cells (bytes (column r 2)))) it.field_is
    (cells_found (tables_in rows) (entry r) (tables_ordered rows) (table_there rows are r it.there))

pub cells_not_there : (rows : List Row) (field : List ℕ) → ((r : Row) → Has rows r → row_field r ≢ field) → cells_of_field field (tables_in rows) ≡ None
cells_not_there rows field none =
    cells_missing (tables_in rows) field (λ t m same. let r = table_from rows t m in none r.0 r.1 (sym (ap (λ (v : Table). v.0) r.2) ∙ same))
