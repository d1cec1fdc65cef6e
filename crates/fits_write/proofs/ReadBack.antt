-- Written rows are read back: a row by its columns, and a table row by row.
use Rattle.std.proofs.Common.{◌≡◌, ◌∙◌, ℕ, zero, suc, ◌+◌, ◌-◌, ◌*◌, ◌/◌, ◌%◌, ◌<◌, ◌≤◌, List, [], ◌∷◌, ◌++◌, get_or, length, map, take, drop, refl}
use Rattle.std.proofs.Common.{sym, ap, ap₂, subst, arith, append_assoc, append-nil, length-append, length-drop, take_all, take-append-drop, ℤ, pos}
use Rattle.std.proofs.Common.{FitsSigned, w32, w64, All, get_or-drop, get_or-take, length-take-le, subst₂, zero-add, mod-eq_of_lt, mul-suc, mul-zero}
use Rattle.std.proofs.Common.{add-zero, add_comm}
use Rattle.std.specs.List.{concat, range_with_len}
use Rattle.std.specs.Int.{cast_signed, cast_unsigned}
use Rattle.std.proofs.lemmas.Int.{to_z-of_z}
use Rattle.std.proofs.lemmas.List.{map-append}
use Rattle.std.proofs.lemmas.List.Folds.{concat-append}
use Rattle.std.proofs.Math.Facts.{Fits-of_z, Fits-lt-pow}
use Rattle.std.proofs.Math.Seq.{take-append_seam, drop-append_seam}
use Rattle.std.proofs.Math.Nat.{add-mod_left, div-add-mod}
use Rattle.byteorder.specs.Numbers.{big_number-reads_back, length-bytes_high_first}
use Rattle.fits_write.specs.declared.table.Cell.{Cell}
use Rattle.fits_write.specs.declared.table.Cell.TheVariants.{J, K}
use Rattle.fits_write.specs.declared.table.Column.{Column}
use Rattle.fits_write.specs.Columns.{cell_size, cell_bytes, FitsCell, cell_at, number_at, bytes_at, table_bytes, row_size, IsTable}
use Rattle.fits_write.proofs.RowByRow.{size_more}
use Rattle.fits_write.specs.Rows.{front_cell, row_cells, table_cells}

-- ---- one cell

bytes_of_cell : (cell : Cell) (z : ℤ) → length (cell_bytes cell z) ≡ cell_size cell
bytes_of_cell J z = length-bytes_high_first 4 (cast_unsigned w32 z)
bytes_of_cell K z = length-bytes_high_first 8 (cast_unsigned w64 z)

cell_back : (cell : Cell) (z : ℤ) (rest : List ℕ) → FitsCell cell z → FitsSigned w64 z → front_cell cell (cell_bytes cell z ++ rest) ≡ z
cell_back J z rest fits whole =
    ap (cast_signed w32) (big_number-reads_back 4 (cast_unsigned w32 z) rest (Fits-lt-pow {w = w32} (Fits-of_z fits))) ∙ to_z-of_z w32 z fits
cell_back K z rest fits whole =
    ap (cast_signed w64) (big_number-reads_back 8 (cast_unsigned w64 z) rest (Fits-lt-pow {w = w64} (Fits-of_z whole))) ∙ to_z-of_z w64 z whole

behind : (front rest : List ℕ) (n : ℕ) → length front ≡ n → drop n (front ++ rest) ≡ rest
behind front rest n e = ap (λ k. drop k (front ++ rest)) (sym e) ∙ drop-append_seam front rest

before : (front rest : List ℕ) (n : ℕ) → length front ≡ n → take n (front ++ rest) ≡ front
before front rest n e = ap (λ k. take k (front ++ rest)) (sym e) ∙ take-append_seam front rest

-- ---- one row

-- the bytes of a row's cells, one column after the other
abbrev row_written : List Column → List ℤ → List ℕ
row_written [] numbers = []
row_written (column ∷ columns) [] = []
row_written (column ∷ columns) (z ∷ numbers) = cell_bytes column.cell z ++ row_written columns numbers

abbrev FitRow : List Column → List ℤ → Type 0
FitRow [] [] = Unit {0}
FitRow [] (z ∷ numbers) = ⊥
FitRow (column ∷ columns) [] = ⊥
FitRow (column ∷ columns) (z ∷ numbers) = FitsCell column.cell z × FitsSigned w64 z × FitRow columns numbers

bytes_of_row : (columns : List Column) (numbers : List ℤ) → length numbers ≡ length columns → length (row_written columns numbers) ≡ row_size columns
bytes_of_row [] [] many = refl
bytes_of_row [] (z ∷ numbers) many = absurd (omega arith)
bytes_of_row (column ∷ columns) [] many = absurd (omega arith)
bytes_of_row (column ∷ columns) (z ∷ numbers) many =
    length-append (cell_bytes column.cell z) (row_written columns numbers)
    ∙ ap₂ ◌+◌ (bytes_of_cell column.cell z) (bytes_of_row columns numbers (omega arith)) ∙ sym (size_more column columns)

row_back : (columns : List Column) (numbers : List ℤ) (rest : List ℕ) → FitRow columns numbers
    → row_cells columns (row_written columns numbers ++ rest) ≡ numbers
row_back [] [] rest fit = refl
row_back [] (z ∷ numbers) rest fit = absurd fit
row_back (column ∷ columns) [] rest fit = absurd fit
row_back (column ∷ columns) (z ∷ numbers) rest fit =
    let cell = cell_bytes column.cell z in
    let more = row_written columns numbers ++ rest in
    let all : (cell ++ row_written columns numbers) ++ rest ≡ cell ++ more = append_assoc cell (row_written columns numbers) rest in
    ap₂ ◌∷◌ (ap (front_cell column.cell) all ∙ cell_back column.cell z more fit.0 fit.1)
    (ap (λ l. row_cells columns (drop (cell_size column.cell) l)) all
    ∙ ap (row_cells columns) (behind cell more (cell_size column.cell) (bytes_of_cell column.cell z))
    ∙ row_back columns numbers rest fit.2)

-- ---- the bytes of a table: those of its first row, and of the others

abbrev no_column : Column
no_column = record { name = []; cell = J }

range-append : (a m n : ℕ) → range_with_len a (m + n) ≡ range_with_len a m ++ range_with_len (a + m) n
range-append a zero n = ap₂ range_with_len (omega arith) (omega arith)
range-append a (suc m) n =
    let more : suc m + n ≡ suc (m + n) = omega arith in
    let place : a + 1 + m ≡ a + suc m = omega arith in
    ap (range_with_len a) more ∙ ap (λ (l : List ℕ). a ∷ l) (range-append (a + 1) m n ∙ ap (λ k. range_with_len (a + 1) m ++ range_with_len k n) place)

map-shifted : {X : Type 0} (f g : ℕ → X) (m a n : ℕ) → ((k : ℕ) → f (m + k) ≡ g k) → map f (range_with_len (m + a) n) ≡ map g (range_with_len a n)
map-shifted f g m a zero same = refl
map-shifted f g m a (suc n) same =
    let next : m + a + 1 ≡ m + (a + 1) = omega arith in
    ap₂ ◌∷◌ (same a) (ap (λ k. map f (range_with_len k n)) next ∙ map-shifted f g m (a + 1) n same)

-- cells in a row, from cell i on
bytes_are : (columns : List Column) (cells : List ℤ) (i : ℕ) (cell : Cell) (z : ℤ) → cell_at columns i ≡ cell → number_at cells i ≡ z
    → bytes_at columns cells i ≡ cell_bytes cell z
unfolding bytes_at
bytes_are columns cells i cell z kind value = ap₂ cell_bytes kind value

row_bytes : (columns : List Column) (cells : List ℤ) (i : ℕ) (some : List Column) (numbers : List ℤ) → length numbers ≡ length some
    → ((j : ℕ) → j < length some → cell_at columns (i + j) ≡ (get_or some j no_column).cell)
    → ((j : ℕ) → j < length some → number_at cells (i + j) ≡ get_or numbers j (pos 0))
    → concat (map (bytes_at columns cells) (range_with_len i (length some))) ≡ row_written some numbers
row_bytes columns cells i [] [] many kinds values = refl
row_bytes columns cells i [] (z ∷ numbers) many kinds values = absurd (omega arith)
row_bytes columns cells i (column ∷ some) [] many kinds values = absurd (omega arith)
row_bytes columns cells i (column ∷ some) (z ∷ numbers) many kinds values =
    let here : i + 0 ≡ i = omega arith in
    let on = λ (j : ℕ). let e : i + 1 + j ≡ i + suc j = omega arith in e in
    ap₂ ◌++◌ (first (ap (cell_at columns) (sym here) ∙ kinds 0 (omega arith)) (ap (number_at cells) (sym here) ∙ values 0 (omega arith)))
    (row_bytes columns cells (i + 1) some numbers (omega arith) (λ j h. ap (cell_at columns) (on j) ∙ kinds (suc j) (omega arith))
    (λ j h. ap (number_at cells) (on j) ∙ values (suc j) (omega arith)))
  where
    first : cell_at columns i ≡ column.cell → number_at cells i ≡ z → bytes_at columns cells i ≡ cell_bytes column.cell z
    first kind value = bytes_are columns cells i column.cell z kind value

module _ (columns : List Column) (cells : List ℤ) (enough : length columns ≤ length cells) where
  first_numbers : length (take (length columns) cells) ≡ length columns
  first_numbers = length-take-le (length columns) cells enough

  front_bytes : concat (map (bytes_at columns cells) (range_with_len 0 (length columns))) ≡ row_written columns (take (length columns) cells)
  front_bytes = row_bytes columns cells 0 columns (take (length columns) cells) first_numbers kinds values
    where
      kinds : (j : ℕ) → j < length columns → cell_at columns (0 + j) ≡ (get_or columns j no_column).cell
      kinds j h = ap (λ k. (get_or columns k no_column).cell) (ap (λ k. k % length columns) (zero-add j) ∙ mod-eq_of_lt h)

      values : (j : ℕ) → j < length columns → number_at cells (0 + j) ≡ get_or (take (length columns) cells) j (pos 0)
      values j h = ap (number_at cells) (zero-add j) ∙ sym (get_or-take (length columns) cells j (pos 0) h)

  later_cells : (k : ℕ) → bytes_at columns cells (length columns + k) ≡ bytes_at columns (drop (length columns) cells) k
  unfolding bytes_at
  later_cells k =
      ap₂ (λ i z. cell_bytes (get_or columns i no_column).cell z) (add-mod_left (length columns) k) (sym (get_or-drop (length columns) cells k (pos 0)))

  pub table_split : table_bytes columns cells ≡ row_written columns (take (length columns) cells) ++ table_bytes columns (drop (length columns) cells)
  unfolding table_bytes
  table_split =
      let m = length columns in
      let others = drop m cells in
      let f = bytes_at columns cells in
      let all : length cells ≡ m + length others = omega (arith, enough, length-drop m cells) in
      ap (λ n. concat (map f (range_with_len 0 n))) all ∙ ap (λ l. concat (map f l)) (range-append 0 m (length others))
      ∙ ap concat (map-append f (range_with_len 0 m) (range_with_len (0 + m) (length others)))
      ∙ concat-append (map f (range_with_len 0 m)) (map f (range_with_len (0 + m) (length others)))
      ∙ ap₂ ◌++◌ front_bytes (ap (λ k. concat (map f (range_with_len k (length others)))) (omega arith)
      ∙ ap concat (map-shifted f (bytes_at columns others) m 0 (length others) later_cells))

-- ---- what fits its columns

fit_row : (columns : List Column) (numbers : List ℤ) → length numbers ≡ length columns
    → ((j : ℕ) → j < length columns → FitsCell (get_or columns j no_column).cell (get_or numbers j (pos 0)))
    → ((j : ℕ) → j < length columns → FitsSigned w64 (get_or numbers j (pos 0))) → FitRow columns numbers
fit_row [] [] many fits whole = tt
fit_row [] (z ∷ numbers) many fits whole = absurd (omega arith)
fit_row (column ∷ columns) [] many fits whole = absurd (omega arith)
fit_row (column ∷ columns) (z ∷ numbers) many fits whole = (
  fits 0 (omega arith),
  whole 0 (omega arith),
  fit_row columns numbers (omega arith) (λ j h. fits (suc j) (omega arith)) (λ j h. whole (suc j) (omega arith)),
)

-- the cells fit the columns in which they stand, and 64 bits
record Fit (columns : List Column) (cells : List ℤ) : Type 0 where
  column : (k : ℕ) → k < length cells → FitsCell (cell_at columns k) (number_at cells k)
  whole : (k : ℕ) → k < length cells → FitsSigned w64 (number_at cells k)

first_row_fits : (columns : List Column) (cells : List ℤ) → length columns ≤ length cells → Fit columns cells → FitRow columns (take (length columns) cells)
first_row_fits columns cells enough fit = fit_row columns (take (length columns) cells) (first_numbers columns cells enough) kinds values
  where
    number : (j : ℕ) → j < length columns → number_at cells j ≡ get_or (take (length columns) cells) j (pos 0)
    number j h = sym (get_or-take (length columns) cells j (pos 0) h)

    kinds : (j : ℕ) → j < length columns → FitsCell (get_or columns j no_column).cell (get_or (take (length columns) cells) j (pos 0))
    kinds j h = subst₂ (λ k z. FitsCell (get_or columns k no_column).cell z) (mod-eq_of_lt h) (number j h) (fit.column j (omega (arith, h, enough)))

    values : (j : ℕ) → j < length columns → FitsSigned w64 (get_or (take (length columns) cells) j (pos 0))
    values j h = subst (FitsSigned w64) (number j h) (fit.whole j (omega (arith, h, enough)))

others_fit : (columns : List Column) (cells : List ℤ) → length columns ≤ length cells → Fit columns cells → Fit columns (drop (length columns) cells)
others_fit columns cells enough fit =
    let m = length columns in
    let place = λ (k : ℕ) (h : k < length (drop m cells)). let e : m + k < length cells = omega (arith, h, length-drop m cells) in e in
    record {
      column =
          λ k h. subst₂ (λ i z. FitsCell (get_or columns i no_column).cell z) (add-mod_left m k) (sym (get_or-drop m cells k (pos 0)))
          (fit.column (m + k) (place k h));
      whole = λ k h. subst (FitsSigned w64) (sym (get_or-drop m cells k (pos 0))) (fit.whole (m + k) (place k h));
    }

fit_of : (columns : List Column) (cells : List ℤ) → IsTable columns cells → All (FitsSigned w64) cells → Fit columns cells
fit_of columns cells table all = record { column = table.fits; whole = λ k h. all k (pos 0) h }

-- ---- a table

nothing_left : {X : Type 0} (xs : List X) → length xs ≡ 0 → [] ≡ xs
nothing_left [] e = refl
nothing_left (x ∷ xs) e = absurd (omega arith)

one_more_row : (m n k : ℕ) → k ≡ m * suc n → (m ≤ k) × (k - m ≡ m * n)
one_more_row m n k e = let s : m * suc n ≡ m * n + m = mul-suc m n in (omega (arith, e, s), omega (arith, e, s))

rows_back : (columns : List Column) (n : ℕ) (cells : List ℤ) (rest : List ℕ) → length cells ≡ length columns * n → Fit columns cells
    → table_cells columns (table_bytes columns cells ++ rest) n ≡ cells
rows_back columns zero cells rest many fit = nothing_left cells (many ∙ mul-zero (length columns))
rows_back columns (suc n) cells rest many fit =
    let m = length columns in
    let size = row_size columns in
    let split = one_more_row m n (length cells) many in
    let row = row_written columns (take m cells) in
    let others = table_bytes columns (drop m cells) in
    let row_fits = first_row_fits columns cells split.0 fit in
    let long : length row ≡ size = bytes_of_row columns (take m cells) (first_numbers columns cells split.0) in
    let all : table_bytes columns cells ++ rest ≡ row ++ (others ++ rest) = ap (λ l. l ++ rest) (table_split columns cells split.0)
    ∙ append_assoc row others rest in
    let first : row_cells columns (take size (table_bytes columns cells ++ rest)) ≡ take m cells =
    ap (λ l. row_cells columns (take size l)) all ∙ ap (row_cells columns) (before row (others ++ rest) size long ∙ sym (append-nil row))
    ∙ row_back columns (take m cells) [] row_fits in
    let later : table_cells columns (drop size (table_bytes columns cells ++ rest)) n ≡ drop m cells =
    ap (λ l. table_cells columns (drop size l) n) all ∙ ap (λ l. table_cells columns l n) (behind row (others ++ rest) size long)
    ∙ rows_back columns n (drop m cells) rest (length-drop m cells ∙ split.1) (others_fit columns cells split.0 fit) in
    ap₂ ◌++◌ first later ∙ take-append-drop m cells

rows_bytes : (columns : List Column) (n : ℕ) (cells : List ℤ) → length cells ≡ length columns * n → length (table_bytes columns cells) ≡ row_size columns * n
unfolding table_bytes
rows_bytes columns zero cells many =
    ap (λ l. length (table_bytes columns l)) (sym (nothing_left cells (many ∙ mul-zero (length columns)))) ∙ sym (mul-zero (row_size columns))
rows_bytes columns (suc n) cells many =
    let m = length columns in
    let split = one_more_row m n (length cells) many in
    let row = row_written columns (take m cells) in
    ap length (table_split columns cells split.0) ∙ length-append row (table_bytes columns (drop m cells))
    ∙ ap₂ ◌+◌ (bytes_of_row columns (take m cells) (first_numbers columns cells split.0))
    (rows_bytes columns n (drop m cells) (length-drop m cells ∙ split.1))
    ∙ add_comm (row_size columns) (row_size columns * n) ∙ sym (mul-suc (row_size columns) n)

whole_table : (columns : List Column) (cells : List ℤ) → IsTable columns cells → length cells ≡ length columns * (length cells / length columns)
whole_table columns cells table =
    sym (div-add-mod (length cells) (length columns)) ∙ ap (λ k. length columns * (length cells / length columns) + k) table.whole_rows
    ∙ add-zero (length columns * (length cells / length columns))

-- ---- the laws

pub row_read_back : (columns : List Column) (cells : List ℤ) → IsTable columns cells → All (FitsSigned w64) cells → length cells ≡ length columns
    → row_cells columns (table_bytes columns cells) ≡ cells
row_read_back columns cells table all one =
    let m = length columns in
    let enough : m ≤ length cells = omega (arith, one) in
    let whole : take m cells ≡ cells = take_all m cells (omega (arith, one)) in
    ap (row_cells columns) (table_split columns cells enough)
    ∙ row_back columns (take m cells) (table_bytes columns (drop m cells)) (first_row_fits columns cells enough (fit_of columns cells table all)) ∙ whole

pub table_read_back : (columns : List Column) (cells : List ℤ) (rest : List ℕ) → IsTable columns cells → All (FitsSigned w64) cells
    → table_cells columns (table_bytes columns cells ++ rest) (length cells / length columns) ≡ cells
table_read_back columns cells rest table all =
    rows_back columns (length cells / length columns) cells rest (whole_table columns cells table) (fit_of columns cells table all)

pub table_size : (columns : List Column) (cells : List ℤ) → IsTable columns cells
    → length (table_bytes columns cells) ≡ row_size columns * (length cells / length columns)
table_size columns cells table = rows_bytes columns (length cells / length columns) cells (whole_table columns cells table)
