-- What the tests and casts of the statements come to, and what a query over `source` answers.
use Rattle.std.proofs.Common.{◌≡◌, inl, inr, ℕ, ℤ, Bool, true, false, cond, List, [], ◌∷◌, map}
use Rattle.std.proofs.Common.{filter, flat_map, Some, refl, ap, subst, ◌∙◌, arith, int_cmp, is_eq}
use Rattle.std.specs.List.{list_all}
use Rattle.std.specs.List.Sorted.{IsPermutation}
use Rattle.std.proofs.lemmas.List.Sorted.{length_permutation}
use Rattle.std.proofs.lemmas.Bool.{cases_Bool}
use Rattle.sqlite.proofs.Callers.{one_permutation}
use Rattle.sqlite.specs.declared.types.Value.{Value}
use Rattle.sqlite.specs.declared.types.Value.TheVariants.{Null, Int, Text}
use Rattle.sqlite.specs.Order.{Row}
use Rattle.sqlite_value.specs.Order.{value_cmp}
use Rattle.sqlite_value.proofs.OrderLemmas.{value_cmp-Text, value_cmp-Int}
use Rattle.sqlite.specs.Collation.TheVariants.{Binary}
use Rattle.sqlite.specs.Kind.TheVariants.{Integer}
use Rattle.sqlite.specs.Cast.{cast}
use Rattle.sqlite.specs.Ops.{unary, binary, is_true}
use Rattle.sqlite_sql.specs.Ops.{from_truth}
use Rattle.sqlite.specs.Term.{Term, eval_all, holds}
use Rattle.sqlite_sql.specs.Query.{matches_as}
use Rattle.sqlite.specs.Query.{Query, inner, end, IsAnswer, output, Output, page}
use Rattle.sqlite.specs.Tree.{Trees}
use Rattle.sqlite_sql.specs.declared.ops.BinaryOp.TheVariants.{Compare}
use Rattle.sqlite_sql.specs.declared.ops.CompareOp.TheVariants.{Eq}
use Rattle.survey_core.specs.Fields.{name_cmp}
use Rattle.survey_sqlite.proofs.Compiled.{simple_query}

either : (b : Bool) (x : Value) → cond b x x ≡ x
either true x = refl
either false x = refl

pub cast_null : cast Integer Null ≡ Null
unfolding unary
cast_null = either _ Null

pub cast_int : (n : ℤ) → cast Integer (Int n) ≡ Int n
unfolding unary
cast_int n = either _ (Int n)

truth_back : (b : Bool) → is_true (from_truth (Some b)) ≡ b
truth_back true = refl
truth_back false = refl

pub equal_texts : (a b : List ℕ) → is_true (binary (Compare Eq Binary) (Text a) (Text b)) ≡ is_eq (name_cmp a b)
unfolding binary
equal_texts a b = truth_back (is_eq (value_cmp (Text a) (Text b))) ∙ ap is_eq (value_cmp-Text a b)

pub equal_ints : (m n : ℤ) → is_true (binary (Compare Eq Binary) (Int m) (Int n)) ≡ is_eq (int_cmp m n)
unfolding binary
equal_ints m n = truth_back (is_eq (value_cmp (Int m) (Int n))) ∙ ap is_eq (value_cmp-Int m n)

-- ---- one scan of `source`

module _ (lost : Value) (terms : List Term) (params : Row) where
  abbrev passes_row : Row → Bool
  passes_row r = list_all (holds (params ∷ r ∷ [])) terms

  scan : (rows : List Row) → flat_map (λ r. cond (passes_row r) ((params ∷ r ∷ []) ∷ []) []) rows ≡ map (λ r. params ∷ r ∷ []) (filter passes_row rows)
  scan [] = refl
  scan (r ∷ rows) = elim (cases_Bool (passes_row r)) [
    | inl yes_it ↦ rw yes_it (ap (λ l. (params ∷ r ∷ []) ∷ l) (scan rows))
    | inr no_it ↦ rw no_it (scan rows)
  ]

  pub scanned : (db : Trees) → matches_as lost db terms (inner 0 end) (params ∷ []) ≡ map (λ r. params ∷ r ∷ []) (filter passes_row (db 0))
  scanned db = scan (db 0)

none_permutation : {X : Type 0} (xs : List X) → IsPermutation [] xs → xs ≡ []
none_permutation [] h = refl
none_permutation (x ∷ xs) h = absurd (let e = length_permutation [] (x ∷ xs) h in omega (arith, e))

module _ (filter_terms project : List Term) (db : Trees) (params : Row) (rows : List Row) where
  abbrev q : Query
  q = simple_query filter_terms project

  pub answers_one : (r : Row) → filter (λ x. list_all (holds (params ∷ x ∷ [])) filter_terms) (db 0) ≡ r ∷ [] → IsAnswer q db params rows
      → rows ≡ eval_all project (params ∷ r ∷ []) ∷ []
  answers_one r found a =
      let staged : a.staged ≡ (params ∷ r ∷ []) ∷ [] = a.grouped ∙ scanned Null filter_terms params db ∙ ap (map (λ x. params ∷ x ∷ [])) found in
      let o : Output = ([], eval_all project (params ∷ r ∷ [])) in
      let kept : a.kept ≡ o ∷ [] = a.distinct ∙ ap (map (output q)) staged in
      let ordered = one_permutation o a.ordered (subst (λ k. IsPermutation k a.ordered) kept a.same) in
      a.shown ∙ ap (λ xs. page q params (map (λ (p : Output). p.1) xs)) ordered

  pub answers_none : filter (λ x. list_all (holds (params ∷ x ∷ [])) filter_terms) (db 0) ≡ [] → IsAnswer q db params rows → rows ≡ []
  answers_none found a =
      let staged : a.staged ≡ [] = a.grouped ∙ scanned Null filter_terms params db ∙ ap (map (λ x. params ∷ x ∷ [])) found in
      let kept : a.kept ≡ [] = a.distinct ∙ ap (map (output q)) staged in
      let ordered = none_permutation a.ordered (subst (λ k. IsPermutation k a.ordered) kept a.same) in
      a.shown ∙ ap (λ xs. page q params (map (λ (p : Output). p.1) xs)) ordered
