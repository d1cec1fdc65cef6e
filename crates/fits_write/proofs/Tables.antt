-- Rows of cells that fit their columns are tables that can be written.
use Rattle.std.proofs.Common.{◌≡◌, ◌∙◌, ℕ, zero, suc, ◌+◌, ◌-◌, ◌*◌, ◌/◌, ◌%◌, ◌<◌, ◌≤◌, List, [], ◌∷◌, ◌++◌, length, get_or, flat_map}
use Rattle.std.proofs.Common.{refl, sym, ap, ap₂, subst, subst₂, arith, length-append, mod-eq_of_lt}
use Rattle.std.proofs.Common.{mul-suc, mul-zero, mul-one, mul-add, ℤ, pos, IsTrue, ◌⊎◌, inl, inr}
use Rattle.std.specs.List.{list_all, AllByRecursion}
use Rattle.std.proofs.lemmas.Bool.{cases_lt}
use Rattle.std.proofs.lemmas.List.{get_or_append_left, get_or-append_right}
use Rattle.std.proofs.Math.Nat.{mul-mod_right, mul-div_cancel_left, mul-add-mod_self_left}
use Rattle.fits_card.specs.Written.{is_plain}
use Rattle.fits_write.specs.declared.table.Cell.TheVariants.{J}
use Rattle.fits_write.specs.declared.table.Column.{Column}
use Rattle.fits_write.specs.Columns.{FitsCell, cell_at, number_at, IsTable}
use Rattle.fits_write.specs.CatalogueColumns.{catalogue_columns, measured_columns}

-- columns that a table can have
pub record AreColumns (columns : List Column) : Type 0 where
  some : 0 < length columns
  few : length columns ≤ 99
  plain : IsTrue (list_all (λ column. list_all is_plain column.name) columns)

pub catalogue_are_columns : AreColumns catalogue_columns
unfolding catalogue_columns
catalogue_are_columns = record { some = omega arith; few = omega arith; plain = refl }

pub measured_are_columns : AreColumns measured_columns
unfolding catalogue_columns measured_columns
measured_are_columns = record { some = omega arith; few = omega arith; plain = refl }

-- each number fits the column above it
abbrev pub FitEach : List Column → List ℤ → Type 0
FitEach [] [] = Unit {0}
FitEach [] (z ∷ numbers) = ⊥
FitEach (column ∷ columns) [] = ⊥
FitEach (column ∷ columns) (z ∷ numbers) = FitsCell column.cell z × FitEach columns numbers

one_each : (columns : List Column) (numbers : List ℤ) → FitEach columns numbers → length numbers ≡ length columns
one_each [] [] fit = refl
one_each [] (z ∷ numbers) fit = absurd fit
one_each (column ∷ columns) [] fit = absurd fit
one_each (column ∷ columns) (z ∷ numbers) fit = ap suc (one_each columns numbers fit.1)

each_fits : (columns : List Column) (numbers : List ℤ) (d : Column) (k : ℕ) → FitEach columns numbers → k < length columns
    → FitsCell (get_or columns k d).cell (number_at numbers k)
each_fits [] numbers d k fit within = absurd (omega arith)
each_fits (column ∷ columns) [] d k fit within = absurd fit
each_fits (column ∷ columns) (z ∷ numbers) d zero fit within = fit.0
each_fits (column ∷ columns) (z ∷ numbers) d (suc k) fit within = each_fits columns numbers d k fit.1 (omega arith)

-- ---- cells that are so many whole rows

whole : (n m k : ℕ) → k ≡ n * m → k % n ≡ 0
whole n m k e = ap (λ j. j % n) e ∙ mul-mod_right n m

rows_of : (n m k : ℕ) → 0 < n → k ≡ n * m → k / n ≡ m
rows_of n m k some e = ap (λ j. j / n) e ∙ mul-div_cancel_left m some

pub no_rows : (columns : List Column) → AreColumns columns → IsTable columns []
no_rows columns are =
    let none : 0 ≡ length columns * 0 = sym (mul-zero (length columns)) in
    let rows = rows_of (length columns) 0 0 are.some none in
    record {
      some_columns = are.some;
      few_columns = are.few;
      plain_names = are.plain;
      whole_rows = whole (length columns) 0 0 none;
      few_rows = omega (arith, rows);
      fits = λ k within. absurd (omega (arith, within));
    }

-- a row is a table
pub one_row : (columns : List Column) (row : List ℤ) → AreColumns columns → FitEach columns row → IsTable columns row
one_row columns row are fit =
    let many = one_each columns row fit in
    let once : length row ≡ length columns * 1 = many ∙ sym (mul-one (length columns)) in
    let rows = rows_of (length columns) 1 (length row) are.some once in
    record {
      some_columns = are.some;
      few_columns = are.few;
      plain_names = are.plain;
      whole_rows = whole (length columns) 1 (length row) once;
      few_rows = omega (arith, rows);
      fits = λ k within. let h : k < length columns = omega (arith, within, many) in
          subst (λ j. FitsCell (get_or columns j (record { name = []; cell = J })).cell (number_at row k)) (sym (mod-eq_of_lt h))
          (each_fits columns row (record { name = []; cell = J }) k fit h);
    }

-- two tables one behind the other
pub tables_joined : (columns : List Column) (a b : List ℤ) (m n : ℕ) → IsTable columns a → IsTable columns b → length a ≡ length columns * m
    → length b ≡ length columns * n → m + n ≤ 2147483647 → IsTable columns (a ++ b)
tables_joined columns a b m n first second many more few =
    let all : length (a ++ b) ≡ length columns * (m + n) = length-append a b ∙ ap₂ ◌+◌ many more ∙ sym (mul-add (length columns) m n) in
    let rows = rows_of (length columns) (m + n) (length (a ++ b)) first.some_columns all in
    record {
      some_columns = first.some_columns;
      few_columns = first.few_columns;
      plain_names = first.plain_names;
      whole_rows = whole (length columns) (m + n) (length (a ++ b)) all;
      few_rows = omega (arith, rows, few);
      fits = λ k within. by k (cases_lt k (length a)) within;
    }
  where
    by : (k : ℕ) → (k < length a) ⊎ (length a ≤ k) → k < length (a ++ b) → FitsCell (cell_at columns k) (number_at (a ++ b) k)
    by k (inl front) within = subst (FitsCell (cell_at columns k)) (sym (get_or_append_left a b (pos 0) k front)) (first.fits k front)
    by k (inr behind) within =
        let j = k - length a in
        let place : k ≡ length columns * m + j = omega (arith, behind, many) in
        let column : j % length columns ≡ k % length columns = sym (mul-add-mod_self_left (length columns) m j) ∙ ap (λ i. i % length columns) (sym place) in
        subst₂ (λ i z. FitsCell (get_or columns i (record { name = []; cell = J })).cell z) column
        (sym (get_or-append_right a b (length a) k (pos 0) refl behind)) (second.fits j (omega (arith, within, behind, length-append a b)))

-- ---- rows that are made of values

pub cells_of_rows : {X : Type 0} (columns : List Column) (cells : X → List ℤ) (rows : List X) → AllByRecursion (λ x. FitEach columns (cells x)) rows
    → length (flat_map cells rows) ≡ length columns * length rows
cells_of_rows columns cells [] fit = sym (mul-zero (length columns))
cells_of_rows columns cells (x ∷ rows) fit =
    let first = one_each columns (cells x) fit.0 in
    let others = cells_of_rows columns cells rows fit.1 in
    omega (arith, length-append (cells x) (flat_map cells rows), first, others, mul-suc (length columns) (length rows))

pub rows_are_table : {X : Type 0} (columns : List Column) (cells : X → List ℤ) (rows : List X) → AreColumns columns
    → AllByRecursion (λ x. FitEach columns (cells x)) rows → length rows ≤ 2147483647 → IsTable columns (flat_map cells rows)
rows_are_table columns cells [] are fit few = no_rows columns are
rows_are_table columns cells (x ∷ rows) are fit few =
    tables_joined columns (cells x) (flat_map cells rows) 1 (length rows) (one_row columns (cells x) are fit.0)
    (rows_are_table columns cells rows are fit.1 (omega (arith, few))) (one_each columns (cells x) fit.0 ∙ sym (mul-one (length columns)))
    (cells_of_rows columns cells rows fit.1) (omega (arith, few))
