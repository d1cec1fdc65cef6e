-- Bookkeeping: the rows of a table behind its header.
use Rattle.std.specs.Prelude.{◌≡◌, ℕ, ◌/◌, List, ◌++◌, length, ℤ}
use Rattle.fits_write.specs.declared.table.Column.{Column}
use Rattle.fits_write.specs.Blocks.{filled}
use Rattle.fits_write.specs.Columns.{IsTable, table_bytes}

-- these cells stand in so many rows at the front of bytes, and `rest` behind their blocks
pub record StandAsRows (columns : List Column) (rows : ℕ) (bytes : List ℕ) (cells : List ℤ) (rest : List ℕ) : Type 0 where
  pub bytes_are : bytes ≡ filled 0 (table_bytes columns cells) ++ rest
  pub table : IsTable columns cells
  pub count : length cells / length columns ≡ rows

-- no cells stand so at the front of the bytes
abbrev pub BeginsWithNoRows : List Column → ℕ → List ℕ → Type 0
BeginsWithNoRows columns rows bytes = (cells : List ℤ) (rest : List ℕ) → StandAsRows columns rows bytes cells rest → ⊥
