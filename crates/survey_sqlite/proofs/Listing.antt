-- What the query for the names of the fields answers.
use Rattle.std.proofs.Common.{◌≡◌, ◌≢◌, inl, inr, ℕ, ◌+◌, ◌≤◌, true, false, List, [], ◌∷◌, map, refl, sym, ap}
use Rattle.std.proofs.Common.{ap₂, subst, subst₂, ◌∙◌, arith, Ordering, Less, Equal, Greater, is_eq, is_gt}
use Rattle.std.specs.Prelude.{sum_by}
use Rattle.std.specs.List.{AllByRecursion}
use Rattle.std.proofs.lemmas.List.Sums.{sum_by-cons}
use Rattle.std.specs.List.Sorted.{IsPermutation}
use Rattle.std.proofs.lemmas.List.Sorted.{IsPermutation-sym, Contains-permutation, sum_by-IsPermutation}
use Rattle.sqlite.specs.declared.types.Value.TheVariants.{Null, Text}
use Rattle.sqlite.specs.Order.{Row, column, bytes}
use Rattle.sqlite_value.specs.Order.{value_cmp}
use Rattle.sqlite_value.proofs.OrderLemmas.{value_cmp_total, value_cmp-Text, then-Equal}
use Rattle.sqlite.specs.Collation.TheVariants.{Binary}
use Rattle.sqlite.specs.Term.{col}
use Rattle.sqlite.specs.Query.{Query, IsAnswer, output, Output}
use Rattle.sqlite_sql.specs.Query.{output_cmp}
use Rattle.sqlite_sql.proofs.QueryLemmas.{output_cmp_total}
use Rattle.sqlite_exec.proofs.PartitionLemmas.{ascending_from_sorted}
use Rattle.sqlite.specs.Program.{overlay}
use Rattle.sqlite.specs.Tree.{IsTable}
use Rattle.sqlite_trees.specs.Tree.{rowid, IsAscending}
use Rattle.sqlite_trees.proofs.ListLemmas.{filter_all, map-map}
use Rattle.sqlite_rules.specs.Lists.{Has}
use Rattle.sqlite_rules.proofs.ListLemmas.{all_has, all_from, has_contained, contains_had}
use Rattle.sqlite.specs.Effect.{Database, Reads}
use Rattle.survey_core.specs.Fields.{name_cmp}
use Rattle.survey_core.specs.Tables.{Table, AreInOrder}
use Rattle.survey_core.proofs.Exported.{Among, same_name, name_itself, same_tables}
use Rattle.survey_core.proofs.Exported as core
use Rattle.lemmas.proofs.Exported.{one_if}
use Rattle.survey_sqlite.specs.Source.{row_field, entry, IsFormed, AreFieldRows, tables_in}
use Rattle.survey_sqlite.proofs.Compiled.{simple_query, names_command}
use Rattle.survey_sqlite.proofs.RowLemmas.{tables_ordered, table_from, table_there}
use Rattle.survey_sqlite.proofs.TestLemmas.{scanned}

abbrev pub by_name : Query
by_name = record (simple_query [] (col 1 1 ∷ [])) { order = (col 1 1, record { collation = Binary; descending = false }) ∷ [] }

abbrev name_of : Output → List ℕ
name_of o = bytes (column o.0 0)

abbrev named : List ℕ → Output
named f = (Text f ∷ [], Text f ∷ [])

abbrev strip : Output → Table
strip o = (name_of o, [])

abbrev out_of : Row → Output
out_of r = (column r 1 ∷ [], column r 1 ∷ [])

abbrev count : List ℕ → List Output → ℕ
count f = sum_by (λ o. one_if (is_eq (name_cmp (name_of o) f)))

-- ---- how often a name comes

more : (f : List ℕ) (o : Output) (os : List Output) → count f (o ∷ os) ≡ one_if (is_eq (name_cmp (name_of o) f)) + count f os
more f o os = sum_by-cons (λ x. one_if (is_eq (name_cmp (name_of x) f))) o os

hits : (f : List ℕ) (o : Output) (os : List Output) → name_of o ≡ f → count f (o ∷ os) ≡ 1 + count f os
hits f o os same = more f o os ∙ ap (λ b. one_if b + count f os) (subst (λ n. is_eq (name_cmp n f) ≡ true) (sym same) (ap is_eq (name_itself f)))

misses : (f : List ℕ) (o : Output) (os : List Output) → name_of o ≢ f → count f (o ∷ os) ≡ count f os
misses f o os other = go (name_cmp (name_of o) f) refl (more f o os)
  where
    go : (r : Ordering) → name_cmp (name_of o) f ≡ r → count f (o ∷ os) ≡ one_if (is_eq (name_cmp (name_of o) f)) + count f os → count f (o ∷ os) ≡ count f os
    go Less e h = omega (arith, h ∙ ap (λ r. one_if (is_eq r) + count f os) e)
    go Equal e h = absurd (other (same_name (name_of o) f e))
    go Greater e h = omega (arith, h ∙ ap (λ r. one_if (is_eq r) + count f os) e)

uncounted : (f : List ℕ) (os : List Output) → count f os ≡ 0 → (o : Output) → Has os o → name_of o ≢ f
uncounted f [] none o m = absurd m
uncounted f (x ∷ os) none o (inl e) = λ same. absurd (omega (arith, none, hits f x os (ap name_of (sym e) ∙ same)))
uncounted f (x ∷ os) none o (inr m) = uncounted f os (omega (arith, none, more f x os)) o m

not_counted : (f : List ℕ) (rows : List Row) → ((r : Row) → Has rows r → row_field r ≢ f) → count f (map out_of rows) ≡ 0
not_counted f [] none = refl
not_counted f (r ∷ rows) none = misses f (out_of r) (map out_of rows) (none r (inl refl)) ∙ not_counted f rows (λ x m. none x (inr m))

below_itself : (r : Row) → value_cmp (rowid r) (rowid r) ≡ Less → ⊥
below_itself r h = let itself = Rattle.std.proofs.lemmas.Cmp.tied_itself value_cmp_total (rowid r) in let bad : Less ≡ Equal = sym h ∙ itself in cc

counted_once : (f : List ℕ) (rows : List Row) → IsTable rows → ((a b : Row) → Has rows a → Has rows b → row_field a ≡ row_field b → a ≡ b)
    → count f (map out_of rows) ≤ 1
counted_once f [] up once = omega arith
counted_once f (r ∷ rows) up once = go (name_cmp (row_field r) f) refl (counted_once f rows up.1 (λ a b p q. once a b (inr p) (inr q)))
  where
    apart : (o : Ordering) → name_cmp (row_field r) f ≡ o → (o ≡ Equal → ⊥) → row_field r ≢ f
    apart o e other same = other (sym e ∙ subst (λ n. name_cmp n f ≡ Equal) (sym same) (name_itself f))

    go : (o : Ordering) → name_cmp (row_field r) f ≡ o → count f (map out_of rows) ≤ 1 → count f (map out_of (r ∷ rows)) ≤ 1
    go Less e low = omega (arith, low, misses f (out_of r) (map out_of rows) (apart Less e (λ bad. cc)))
    go Equal e low =
        let same : row_field r ≡ f = same_name (row_field r) f e in
        let none : count f (map out_of rows) ≡ 0 = not_counted f rows (λ x m is.
        let alike : x ≡ r = once x r (inr m) (inl refl) (is ∙ sym same) in
        below_itself r (subst (λ y. value_cmp (rowid r) (rowid y) ≡ Less) alike (all_has (λ y. value_cmp (rowid r) (rowid y) ≡ Less) rows x up.0 m))) in
        omega (arith, none, hits f (out_of r) (map out_of rows) same)
    go Greater e low = omega (arith, low, misses f (out_of r) (map out_of rows) (apart Greater e (λ bad. cc)))

-- ---- names in order

less_if : (o : Ordering) → is_gt o ≡ false → (o ≡ Equal → ⊥) → o ≡ Less
less_if Less h k = refl
less_if Equal h k = absurd (k refl)
less_if Greater h k = absurd (cc)

compared : (f g : List ℕ) → output_cmp by_name (named f) (named g) ≡ name_cmp f g
compared f g = then-Equal _ ∙ value_cmp-Text f g

abbrev AtMost : Output → Output → Type 0
AtMost a b = is_gt (output_cmp by_name a b) ≡ false

rises : (os : List Output) → ((o : Output) → Has os o → o ≡ named (name_of o)) → IsAscending AtMost os → ((f : List ℕ) → count f os ≤ 1)
    → AreInOrder (map strip os)
rises [] are up once = tt
rises (o ∷ os) are up once = (above os (λ y m. m) up.0, rises os (λ y m. are y (inr m)) up.1 (λ f. omega (arith, once f, more f o os)))
  where
    none : count (name_of o) os ≡ 0
    none = omega (arith, once (name_of o), hits (name_of o) o os refl)

    above : (ys : List Output) → ((y : Output) → Has ys y → Has os y) → AllByRecursion (AtMost o) ys
        → AllByRecursion (λ (u : Table). name_cmp (name_of o) u.0 ≡ Less) (map strip ys)
    above [] inside low = tt
    above (y ∷ ys) inside low = (
      less_if (name_cmp (name_of o) (name_of y))
          (ap is_gt (sym (compared (name_of o) (name_of y)))
          ∙ subst₂ (λ a b. is_gt (output_cmp by_name a b) ≡ false) (are o (inl refl)) (are y (inr (inside y (inl refl)))) low.0)
          (λ e. uncounted (name_of o) os none y (inside y (inl refl)) (sym (same_name (name_of o) (name_of y) e))),
      above ys (λ z m. inside z (inr m)) low.1,
    )

module _ (rows : List Row) (are : AreFieldRows rows) (os : List Output) (same : IsPermutation (map out_of rows) os) (up : IsAscending AtMost os) where
  out_named : (r : Row) → IsFormed r → out_of r ≡ named (row_field r)
  out_named r f = subst (λ x. out_of x ≡ named (row_field x)) (sym f.is) refl

  from_row : (xs : List Row) (o : Output) → Has (map out_of xs) o → (r : Row) × Has xs r × (o ≡ out_of r)
  from_row [] o m = absurd m
  from_row (x ∷ xs) o (inl e) = (x, inl refl, e)
  from_row (x ∷ xs) o (inr m) = let more = from_row xs o m in (more.0, inr more.1, more.2)

  to_row : (xs : List Row) (r : Row) → Has xs r → Has (map out_of xs) (out_of r)
  to_row [] r m = absurd m
  to_row (x ∷ xs) r (inl e) = inl (ap out_of e)
  to_row (x ∷ xs) r (inr m) = inr (to_row xs r m)

  row_of : (o : Output) → Has os o → (r : Row) × Has rows r × (o ≡ out_of r)
  row_of o m =
      from_row rows o (has_contained (map out_of rows) o
      (Contains-permutation os (map out_of rows) o (IsPermutation-sym (map out_of rows) os same) (contains_had os o m)))

  of_row : (r : Row) → Has rows r → Has os (out_of r)
  of_row r m =
      has_contained os (out_of r) (Contains-permutation (map out_of rows) os (out_of r) same (contains_had (map out_of rows) (out_of r) (to_row rows r m)))

  are_named : (o : Output) → Has os o → o ≡ named (name_of o)
  are_named o m =
      let r = row_of o m in
      let n : out_of r.0 ≡ named (row_field r.0) = out_named r.0 (are.formed r.0 r.1) in
      r.2 ∙ n ∙ ap named (sym (ap name_of r.2))

  ordered_names : AreInOrder (map strip os)
  ordered_names =
      rises os are_named up (λ f. subst (λ n. n ≤ 1) (sym (sum_by-IsPermutation (λ o. one_if (is_eq (name_cmp (name_of o) f))) (map out_of rows) os same))
      (counted_once f rows are.ordered are.once))

  abbrev bare : Table → Table
  bare t = (t.0, [])

  bare_order : (ts : List Table) → AreInOrder ts → AreInOrder (map bare ts)
  bare_order [] u = tt
  bare_order (t ∷ ts) u = (
    core.all_from _ (map bare ts)
        (λ x m. let y = unbare ts x m in
        subst (λ (v : Table). name_cmp t.0 v.0 ≡ Less) (sym y.2) (core.all_among (λ v. name_cmp t.0 v.0 ≡ Less) ts y.0 u.0 y.1)),
    bare_order ts u.1,
  )
    where
      unbare : (us : List Table) (x : Table) → Among (map bare us) x → (y : Table) × Among us y × (x ≡ bare y)
      unbare [] x m = absurd m
      unbare (u ∷ us) x (inl e) = (u, inl refl, e)
      unbare (u ∷ us) x (inr m) = let more = unbare us x m in (more.0, inr more.1, more.2)

  among_outputs : (xs : List Output) (t : Table) → Among (map strip xs) t → (o : Output) × Has xs o × (t ≡ strip o)
  among_outputs [] t m = absurd m
  among_outputs (x ∷ xs) t (inl e) = (x, inl refl, e)
  among_outputs (x ∷ xs) t (inr m) = let rest = among_outputs xs t m in (rest.0, inr rest.1, rest.2)

  outputs_among : (xs : List Output) (o : Output) → Has xs o → Among (map strip xs) (strip o)
  outputs_among [] o m = absurd m
  outputs_among (x ∷ xs) o (inl e) = inl (ap strip e)
  outputs_among (x ∷ xs) o (inr m) = inr (outputs_among xs o m)

  among_bare : (xs : List Table) (t : Table) → Among (map bare xs) t → (u : Table) × Among xs u × (t ≡ bare u)
  among_bare [] t m = absurd m
  among_bare (x ∷ xs) t (inl e) = (x, inl refl, e)
  among_bare (x ∷ xs) t (inr m) = let rest = among_bare xs t m in (rest.0, inr rest.1, rest.2)

  bare_among : (xs : List Table) (u : Table) → Among xs u → Among (map bare xs) (bare u)
  bare_among [] u m = absurd m
  bare_among (x ∷ xs) u (inl e) = inl (ap bare e)
  bare_among (x ∷ xs) u (inr m) = inr (bare_among xs u m)

  listed : map strip os ≡ map bare (tables_in rows)
  listed = same_tables _ _ ordered_names (bare_order (tables_in rows) (tables_ordered rows))
      (λ t m. let o = among_outputs os t m in let r = row_of o.0 o.1 in
      subst (Among (map bare (tables_in rows))) (sym (o.2 ∙ ap strip r.2)) (bare_among (tables_in rows) (entry r.0) (table_there rows are r.0 r.1)))
      (λ t m. let u = among_bare (tables_in rows) t m in let r = table_from rows u.0 u.1 in
      subst (Among (map strip os)) (sym (u.2 ∙ ap bare r.2)) (outputs_among os (out_of r.0) (of_row r.0 r.1)))

  abbrev pub name_row : Table → Row
  name_row t = Text t.0 ∷ []

  shows : (xs : List Output) → ((o : Output) → Has xs o → o ≡ named (name_of o)) → map (λ (o : Output). o.1) xs ≡ map name_row (map strip xs)
  shows [] is = refl
  shows (x ∷ xs) is = ap₂ ◌∷◌ (ap (λ (o : Output). o.1) (is x (inl refl))) (shows xs (λ o m. is o (inr m)))

  pub listed_names : map (λ (o : Output). o.1) os ≡ map (λ (t : Table). Text t.0 ∷ []) (tables_in rows)
  listed_names = shows os are_named ∙ ap (map name_row) listed ∙ map-map name_row bare (tables_in rows)

pub reads_names : (db : Database) (are : AreFieldRows (db.trees 0)) (rows : List Row) → Reads names_command db [] rows
    → rows ≡ map (λ (t : Table). Text t.0 ∷ []) (tables_in (db.trees 0))
reads_names db are rows h =
    let a : IsAnswer by_name (overlay db.trees []) [] rows = h.answer Null in
    let source = db.trees 0 in
    let staged : a.staged ≡ map (λ r. [] ∷ r ∷ []) source =
    a.grouped ∙ scanned Null [] [] (overlay db.trees [])
    ∙ ap (map (λ (r : Row). [] ∷ r ∷ [])) (filter_all (λ _. true) source (all_from _ source (λ x m. refl))) in
    let kept : a.kept ≡ map out_of source = a.distinct ∙ ap (map (output by_name)) staged ∙ map-map (output by_name) (λ r. [] ∷ r ∷ []) source in
    a.shown ∙ listed_names source are a.ordered (subst (λ k. IsPermutation k a.ordered) kept a.same)
    (ascending_from_sorted (output_cmp by_name) (output_cmp_total by_name) a.ordered a.sorted)
