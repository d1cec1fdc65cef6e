-- The cells of rows, and the bytes of a table.
use Rattle.std.proofs.Common.{◌≡◌, ◌∙◌, ℕ, zero, suc, ◌+◌, ◌-◌, ◌*◌, ◌/◌, ◌%◌, ◌<◌, ◌≤◌, List, [], ◌∷◌, ◌++◌, get_or, length, take, drop, refl}
use Rattle.std.proofs.Common.{sym, ap, ap₂, subst, arith, ℤ, w32, w64, FitsSigned, All, IsTrue, mul-suc, mul-zero, take-append-drop, length-append, length-drop}
use Rattle.std.proofs.Common.{length-take-le, append-nil, subst₂, mod-eq_of_lt, ◌⊎◌, inl, inr, pos, rules, replicate}
use Rattle.std.proofs.lemmas.Bool.{cases_lt}
use Rattle.std.proofs.lemmas.List.{get_or_append_left, get_or-append_right}
use Rattle.fits_write.specs.Blocks.{filled, room_after}
use Rattle.std.proofs.Math.Facts.{sfits_to_z, Fits-of_lt}
use Rattle.std.proofs.Math.Nat.{mul-mod_right, mul-div_cancel_left, add-mod_left, lt-div-mul-add, mul-le-mul_right}
use Rattle.std.proofs.lemmas.Int.{of_z-to_z}
use Rattle.std.proofs.lemmas.List.Elements.{All-append, All-cons}
use Rattle.std.proofs.lemmas.List.Sums.{sum_by-cons}
use Rattle.std.specs.List.{list_all, range_with_len}
use Rattle.std.specs.Int.{cast_unsigned}
use Rattle.byteorder.specs.Endian.{big_number}
use Rattle.byteorder.specs.Numbers.{big_from-lt, big_from-take}
use Rattle.fits_card.specs.Written.{is_plain}
use Rattle.fits_write.specs.declared.table.Cell.{Cell}
use Rattle.fits_write.specs.declared.table.Cell.TheVariants.{J, K}
use Rattle.fits_write.specs.declared.table.Column.{Column}
use Rattle.fits_write.specs.Columns.{cell_size, cell_bytes, FitsCell, cell_at, number_at, bytes_at, row_size, table_bytes, IsTable}
use Rattle.fits_write.specs.Rows.{front_cell, row_cells, table_cells}
use Rattle.fits_write.specs.Laws.{WrittenTableIsReadBack, TableHasItsRowsBytes}
use Rattle.fits_write.proofs.Exported.{length-row_cells, table_cells-more}
use Rattle.fits_back.specs.TableRows.{StandAsRows, BeginsWithNoRows}
use Rattle.fits_back.proofs.Bytes.{AreBytes, bytes-take, bytes-drop, bytes-concat, bytes_before, bytes_of_number, number_tells, parts_same}

-- the next row behind those that are read
pub row_read : (columns : List Column) (bytes : List ℕ) (row size : ℕ) (cells more : List ℤ) → size ≡ row_size columns → cells ≡ table_cells columns bytes row
    → more ≡ cells ++ row_cells columns (take (size * (row + 1) - size * row) (drop (size * row) bytes)) → more ≡ table_cells columns bytes (row + 1)
row_read columns bytes row size cells more e so_far is =
    let once : size * (row + 1) - size * row ≡ row_size columns = omega (arith, e) in
    is ∙ ap₂ (λ l (n : ℕ). l ++ row_cells columns (take n (drop (size * row) bytes))) so_far once
    ∙ ap (λ (n : ℕ). table_cells columns bytes row ++ row_cells columns (take (row_size columns) (drop (n * row) bytes))) e
    ∙ sym (table_cells-more columns bytes row)

-- ---- what fits

cell_fits : (cell : Cell) (bytes : List ℕ) → AreBytes bytes → FitsCell cell (front_cell cell bytes)
cell_fits J bytes are = sfits_to_z {w = w32} (Fits-of_lt {w = w32} (big_from-lt 0 4 bytes are))
cell_fits K bytes are = tt

row_fits : (columns : List Column) (bytes : List ℕ) (d : Column) (k : ℕ) → AreBytes bytes → k < length columns
    → FitsCell (get_or columns k d).cell (get_or (row_cells columns bytes) k (pos 0))
row_fits [] bytes d k are within = absurd (omega arith)
row_fits (column ∷ columns) bytes d zero are within = cell_fits column.cell bytes are
row_fits (column ∷ columns) bytes d (suc k) are within =
    row_fits columns (drop (cell_size column.cell) bytes) d k (bytes-drop (cell_size column.cell) bytes are) (omega arith)

pub length-table_cells : (columns : List Column) (bytes : List ℕ) (n : ℕ) → length (table_cells columns bytes n) ≡ length columns * n
length-table_cells columns bytes zero = sym (mul-zero (length columns))
length-table_cells columns bytes (suc n) =
    let size = row_size columns in
    let row = row_cells columns (take size bytes) in
    let first : length row ≡ length columns = length-row_cells columns (take size bytes) in
    let others : length (table_cells columns (drop size bytes) n) ≡ length columns * n = length-table_cells columns (drop size bytes) n in
    omega (arith, length-append row (table_cells columns (drop size bytes) n), first, others, mul-suc (length columns) n)

cells_fit : (columns : List Column) (bytes : List ℕ) (n k : ℕ) → 0 < length columns → AreBytes bytes → k < length (table_cells columns bytes n)
    → FitsCell (cell_at columns k) (number_at (table_cells columns bytes n) k)
cells_fit columns bytes zero k some are within = absurd (omega arith)
cells_fit columns bytes (suc n) k some are within =
    by (λ j inside. cells_fit columns (drop (row_size columns) bytes) n j some (bytes-drop (row_size columns) bytes are) inside) (cases_lt k (length columns))
  where
    size : ℕ
    size = row_size columns

    row : List ℤ
    row = row_cells columns (take size bytes)

    others : List ℤ
    others = table_cells columns (drop size bytes) n

    by : ((j : ℕ) → j < length others → FitsCell (cell_at columns j) (number_at others j)) → (k < length columns) ⊎ (length columns ≤ k)
        → FitsCell (cell_at columns k) (number_at (row ++ others) k)
    by later (inl front) =
        let long : length row ≡ length columns = length-row_cells columns (take size bytes) in
        subst₂ (λ i z. FitsCell (get_or columns i (record { name = []; cell = J })).cell z) (sym (mod-eq_of_lt front))
        (sym (get_or_append_left row others (pos 0) k (omega (arith, front, long))))
        (row_fits columns (take size bytes) (record { name = []; cell = J }) k (bytes-take size bytes are) front)
    by later (inr behind) =
        let long : length row ≡ length columns = length-row_cells columns (take size bytes) in
        let j = k - length columns in
        let place : length columns + j ≡ k = omega (arith, behind) in
        let column : j % length columns ≡ k % length columns = sym (add-mod_left (length columns) j) ∙ ap (λ i. i % length columns) place in
        let here : number_at others j ≡ number_at (row ++ others) k =
        ap (λ (m : ℕ). number_at others (k - m)) (sym long) ∙ sym (get_or-append_right row others (length row) k (pos 0) refl (omega (arith, behind, long))) in
        subst₂ (λ i z. FitsCell (get_or columns i (record { name = []; cell = J })).cell z) column here
        (later j (omega (arith, within, length-append row others, long, place)))

table_rows : (columns : List Column) (bytes : List ℕ) (n : ℕ) → 0 < length columns → length (table_cells columns bytes n) / length columns ≡ n
table_rows columns bytes n some = ap (λ (k : ℕ). k / length columns) (length-table_cells columns bytes n) ∙ mul-div_cancel_left n some

pub cells_are_table : (columns : List Column) (bytes : List ℕ) (n : ℕ) → 0 < length columns → length columns ≤ 99
    → IsTrue (list_all (λ column. list_all is_plain column.name) columns) → n ≤ 2147483647 → AreBytes bytes → IsTable columns (table_cells columns bytes n)
cells_are_table columns bytes n some few plain rows are =
    let m = length columns in
    let all = length-table_cells columns bytes n in
    let count = table_rows columns bytes n some in
    record {
      some_columns = some;
      few_columns = few;
      plain_names = plain;
      whole_rows = ap (λ (k : ℕ). k % m) all ∙ mul-mod_right m n;
      few_rows = omega (arith, count, rows);
      fits = λ k within. cells_fit columns bytes n k some are within;
    }

-- ---- cells are numbers of 64 bits

cell_is_whole : (cell : Cell) (bytes : List ℕ) → AreBytes bytes → FitsSigned w64 (front_cell cell bytes)
cell_is_whole J bytes are =
    let narrow : FitsSigned w32 (front_cell J bytes) = cell_fits J bytes are in
    search rules
cell_is_whole K bytes are = sfits_to_z {w = w64} (Fits-of_lt {w = w64} (big_from-lt 0 8 bytes are))

row_is_whole : (columns : List Column) (bytes : List ℕ) → AreBytes bytes → All (FitsSigned w64) (row_cells columns bytes)
row_is_whole [] bytes are = λ k d within. absurd (omega arith)
row_is_whole (column ∷ columns) bytes are =
    All-cons (FitsSigned w64) (front_cell column.cell bytes) (row_cells columns (drop (cell_size column.cell) bytes)) (cell_is_whole column.cell bytes are)
    (row_is_whole columns (drop (cell_size column.cell) bytes) (bytes-drop (cell_size column.cell) bytes are))

pub cells_are_whole : (columns : List Column) (bytes : List ℕ) (n : ℕ) → AreBytes bytes → All (FitsSigned w64) (table_cells columns bytes n)
cells_are_whole columns bytes zero are = λ k d within. absurd (omega arith)
cells_are_whole columns bytes (suc n) are =
    let size = row_size columns in
    All-append (FitsSigned w64) (row_cells columns (take size bytes)) (table_cells columns (drop size bytes) n)
    (row_is_whole columns (take size bytes) (bytes-take size bytes are)) (cells_are_whole columns (drop size bytes) n (bytes-drop size bytes are))

-- ---- as many bytes with the same cells are the same

cell_tells : (cell : Cell) (a b : List ℕ) → cell_size cell ≤ length a → cell_size cell ≤ length b → AreBytes a → AreBytes b
    → front_cell cell a ≡ front_cell cell b → take (cell_size cell) a ≡ take (cell_size cell) b
cell_tells J a b la lb are been e =
    let same : big_number 4 a ≡ big_number 4 b =
    sym (of_z-to_z w32 (big_number 4 a) (big_from-lt 0 4 a are)) ∙ ap (cast_unsigned w32) e ∙ of_z-to_z w32 (big_number 4 b) (big_from-lt 0 4 b been) in
    number_tells 4 (take 4 a) (take 4 b) (length-take-le 4 a la) (length-take-le 4 b lb) (bytes-take 4 a are) (bytes-take 4 b been)
    (big_from-take 0 4 4 a (omega arith) ∙ same ∙ sym (big_from-take 0 4 4 b (omega arith)))
cell_tells K a b la lb are been e =
    let same : big_number 8 a ≡ big_number 8 b =
    sym (of_z-to_z w64 (big_number 8 a) (big_from-lt 0 8 a are)) ∙ ap (cast_unsigned w64) e ∙ of_z-to_z w64 (big_number 8 b) (big_from-lt 0 8 b been) in
    number_tells 8 (take 8 a) (take 8 b) (length-take-le 8 a la) (length-take-le 8 b lb) (bytes-take 8 a are) (bytes-take 8 b been)
    (big_from-take 0 8 8 a (omega arith) ∙ same ∙ sym (big_from-take 0 8 8 b (omega arith)))

no_bytes : (a b : List ℕ) → length a ≡ 0 → length b ≡ 0 → a ≡ b
no_bytes [] [] la lb = refl
no_bytes [] (y ∷ b) la lb = absurd (omega arith)
no_bytes (x ∷ a) b la lb = absurd (omega arith)

row_tells : (columns : List Column) (a b : List ℕ) → length a ≡ row_size columns → length b ≡ row_size columns → AreBytes a → AreBytes b
    → row_cells columns a ≡ row_cells columns b → a ≡ b
row_tells [] a b la lb are been e = no_bytes a b la lb
row_tells (column ∷ columns) a b la lb are been e =
    let size = cell_size column.cell in
    let more : row_size (column ∷ columns) ≡ cell_size column.cell + row_size columns = sum_by-cons (λ c. cell_size c.cell) column columns in
    let first : front_cell column.cell a ≡ front_cell column.cell b = cc in
    let later : row_cells columns (drop size a) ≡ row_cells columns (drop size b) = cc in
    let front = cell_tells column.cell a b (omega (arith, la, more)) (omega (arith, lb, more)) are been first in
    let behind = row_tells columns (drop size a) (drop size b) (omega (arith, la, more, length-drop size a)) (omega (arith, lb, more, length-drop size b))
    (bytes-drop size a are) (bytes-drop size b been) later in
    sym (take-append-drop size a) ∙ ap₂ ◌++◌ front behind ∙ take-append-drop size b

table_tells : (columns : List Column) (n : ℕ) (a b : List ℕ) → length a ≡ row_size columns * n → length b ≡ row_size columns * n → AreBytes a → AreBytes b
    → table_cells columns a n ≡ table_cells columns b n → a ≡ b
table_tells columns zero a b la lb are been e = no_bytes a b (la ∙ mul-zero (row_size columns)) (lb ∙ mul-zero (row_size columns))
table_tells columns (suc n) a b la lb are been e =
    let size = row_size columns in
    let more : size * suc n ≡ size * n + size = mul-suc size n in
    let parts = parts_same (row_cells columns (take size a)) (row_cells columns (take size b)) (table_cells columns (drop size a) n) (table_cells columns (drop size b) n)
    (length-row_cells columns (take size a) ∙ sym (length-row_cells columns (take size b))) e in
    let front = row_tells columns (take size a) (take size b) (length-take-le size a (omega (arith, la, more))) (length-take-le size b (omega (arith, lb, more)))
    (bytes-take size a are) (bytes-take size b been) parts.0 in
    let behind = table_tells columns n (drop size a) (drop size b) (omega (arith, la, more, length-drop size a)) (omega (arith, lb, more, length-drop size b))
    (bytes-drop size a are) (bytes-drop size b been) parts.1 in
    sym (take-append-drop size a) ∙ ap₂ ◌++◌ front behind ∙ take-append-drop size b

-- ---- the bytes of a table are those from which its cells are read

cell_written : (cell : Cell) (z : ℤ) → AreBytes (cell_bytes cell z)
cell_written J z = bytes_of_number 4 (cast_unsigned w32 z)
cell_written K z = bytes_of_number 8 (cast_unsigned w64 z)

written_at : (columns : List Column) (cells : List ℤ) (k : ℕ) → AreBytes (bytes_at columns cells k)
unfolding bytes_at
written_at columns cells k = cell_written (cell_at columns k) (number_at cells k)

table_written : (columns : List Column) (cells : List ℤ) → AreBytes (table_bytes columns cells)
unfolding table_bytes
table_written columns cells = bytes-concat (bytes_at columns cells) (range_with_len 0 (length cells)) (written_at columns cells)

-- what the laws of tables say
pub record TableLaws : Type 0 where
  pub read_back : WrittenTableIsReadBack
  pub size : TableHasItsRowsBytes

written_again : TableLaws → (columns : List Column) (bytes : List ℕ) (cells : List ℤ) (n : ℕ) → IsTable columns cells → All (FitsSigned w64) cells
    → length cells / length columns ≡ n → length bytes ≡ row_size columns * n → AreBytes bytes → cells ≡ table_cells columns bytes n
    → table_bytes columns cells ≡ bytes
written_again laws columns bytes cells n table whole count long are read =
    let written = table_bytes columns cells in
    let size : length written ≡ row_size columns * n = laws.size columns cells table ∙ ap (λ (k : ℕ). row_size columns * k) count in
    let back : table_cells columns written n ≡ cells =
    ap₂ (table_cells columns) (sym (append-nil written)) (sym count) ∙ laws.read_back columns cells [] table whole in
    table_tells columns n written bytes size long (table_written columns cells) are (back ∙ read)

data_are_bytes : (data_bytes rest : List ℕ) → AreBytes (filled 0 data_bytes ++ rest) → AreBytes data_bytes
unfolding filled
data_are_bytes data_bytes rest are =
    let fill : List ℕ = replicate (room_after (length data_bytes)) 0 in
    bytes_before data_bytes fill (bytes_before (data_bytes ++ fill) rest are)

pub rows_here : TableLaws → (columns : List Column) (bytes data_bytes rest : List ℕ) (cells : List ℤ) (n : ℕ) → 0 < length columns → length columns ≤ 99
    → IsTrue (list_all (λ column. list_all is_plain column.name) columns) → n ≤ 2147483647 → AreBytes bytes → length data_bytes ≡ row_size columns * n
    → bytes ≡ filled 0 data_bytes ++ rest → cells ≡ table_cells columns data_bytes n → StandAsRows columns n bytes cells rest
rows_here laws columns bytes data_bytes rest cells n some few plain rows all_are long split read =
    let are = data_are_bytes data_bytes rest (subst AreBytes split all_are) in
    let table : IsTable columns cells = subst (IsTable columns) (sym read) (cells_are_table columns data_bytes n some few plain rows are) in
    let whole : All (FitsSigned w64) cells = subst (λ l. All (FitsSigned w64) l) (sym read) (cells_are_whole columns data_bytes n are) in
    let count : length cells / length columns ≡ n = ap (λ l. length l / length columns) read ∙ table_rows columns data_bytes n some in
    record {
      bytes_are = split ∙ ap (λ l. filled 0 l ++ rest) (sym (written_again laws columns data_bytes cells n table whole count long are read));
      table = table;
      count = count;
    }

-- ---- no rows are there

too_many : (size n long : ℕ) → 0 < size → long / size < n → size * n ≤ long → ⊥
too_many size n long some few enough =
    let below : long < long / size * size + size = lt-div-mul-add some in
    let rows : (long / size + 1) * size ≤ n * size = mul-le-mul_right size (omega arith) in
    omega (arith, below, rows, enough)

length-filled : (byte : ℕ) (bytes rest : List ℕ) → length bytes ≤ length (filled byte bytes ++ rest)
unfolding filled
length-filled byte bytes rest =
    let fill : List ℕ = replicate (room_after (length bytes)) byte in
    omega (arith, length-append (bytes ++ fill) rest, length-append bytes fill)

pub rows_cut : TableLaws → (columns : List Column) (bytes : List ℕ) (size n : ℕ) → size ≡ row_size columns → 0 < size → length bytes / size < n
    → BeginsWithNoRows columns n bytes
rows_cut laws columns bytes size n e some few = λ cells rest are.
    let written = table_bytes columns cells in
    let long : length written ≡ size * n = laws.size columns cells are.table ∙ ap₂ ◌*◌ (sym e) are.count in
    let within : length written ≤ length bytes = subst (λ l. length written ≤ length l) (sym are.bytes_are) (length-filled 0 written rest) in
    too_many size n (length bytes) some few (omega (arith, long, within))
