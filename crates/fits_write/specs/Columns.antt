-- Model: the columns of a binary table and their cells (FITS Standard 4.0, section 7.3).
use Rattle.std.specs.Prelude.{◌≡◌, ℕ, ◌+◌, ◌/◌, ◌%◌, ◌<◌, ◌≤◌, IsTrue}
use Rattle.std.specs.Prelude.{List, [], ◌∷◌, length, map, codes, ℤ, pos, FitsSigned, ⊤, slice_index_or, sum_by}
use Rattle.std.specs.List.{concat, list_all, range_with_len}
use Rattle.std.specs.Int.{w32, w64, cast_unsigned}
use Rattle.byteorder.specs.Endian.{big_bytes}
use Rattle.fits_card.specs.Written.{is_plain, numbered_keyword, written_text}
use Rattle.fits_write.specs.declared.table.Cell.{Cell}
use Rattle.fits_write.specs.declared.table.Cell.TheVariants.{J, K}
use Rattle.fits_write.specs.declared.table.Column.{Column}

-- how many bytes a cell has
abbrev pub cell_size : Cell → ℕ
cell_size J = 4
cell_size K = 8

-- the value of TFORMn
abbrev pub form_of : Cell → List ℕ
form_of J = codes "J"
form_of K = codes "K"

-- the bytes of a cell: two's complement, the most significant byte first
abbrev pub cell_bytes : Cell → ℤ → List ℕ
cell_bytes J number = big_bytes 4 (cast_unsigned w32 number)
cell_bytes K number = big_bytes 8 (cast_unsigned w64 number)

-- the number fits such a cell; an `i64` always fits 64 bits
abbrev pub FitsCell : Cell → ℤ → Type 0
FitsCell J number = FitsSigned w32 number
FitsCell K number = ⊤

-- ---- cell k of a table, counted from 0 row by row

-- the column in which it stands
abbrev pub cell_at : List Column → ℕ → Cell
cell_at columns k = (slice_index_or columns (k % length columns) (record { name = []; cell = J })).cell

abbrev pub number_at : List ℤ → ℕ → ℤ
number_at cells k = slice_index_or cells k (pos 0)

unfoldable pub bytes_at : List Column → List ℤ → ℕ → List ℕ
bytes_at columns cells k = cell_bytes (cell_at columns k) (number_at cells k)

-- the bytes of all cells, without gaps
unfoldable pub table_bytes : List Column → List ℤ → List ℕ
table_bytes columns cells = concat (map (bytes_at columns cells) (range_with_len 0 (length cells)))

-- ---- the header

-- how many bytes a row has
abbrev pub row_size : List Column → ℕ
row_size columns = sum_by (λ column. cell_size column.cell) columns

-- TTYPEn and TFORMn of these columns, numbered from n
abbrev pub column_cards : ℕ → List Column → List (List ℕ)
column_cards n [] = []
column_cards n (column ∷ columns) =
    written_text (numbered_keyword (codes "TTYPE") n) column.name
    ∷ written_text (numbered_keyword (codes "TFORM") n) (form_of column.cell)
    ∷ column_cards (n + 1) columns

-- ---- what can be written

-- a table that can be written: from 1 to 99 columns with plain names, and whole rows, at most 2 ^ 31 - 1, of cells that fit their columns
pub record IsTable (columns : List Column) (cells : List ℤ) : Type 0 where
  pub some_columns : 0 < length columns
  pub few_columns : length columns ≤ 99
  pub plain_names : IsTrue (list_all (λ column. list_all is_plain column.name) columns)
  pub whole_rows : length cells % length columns ≡ 0
  pub few_rows : length cells / length columns ≤ 2147483647
  pub fits : (k : ℕ) → k < length cells → FitsCell (cell_at columns k) (number_at cells k)
