-- Model: the cells that the bytes of a table say, by the kinds of its columns: two's complement, the most significant byte first.
use Rattle.std.specs.Prelude.{ℕ, zero, suc, List, [], ◌∷◌, ◌++◌, take, drop, ℤ}
use Rattle.std.specs.Int.{w32, w64, cast_signed}
use Rattle.byteorder.specs.Endian.{big_number}
use Rattle.fits_write.specs.declared.table.Cell.{Cell}
use Rattle.fits_write.specs.declared.table.Cell.TheVariants.{J, K}
use Rattle.fits_write.specs.declared.table.Column.{Column}
use Rattle.fits_write.specs.Columns.{cell_size, row_size}

-- the number in a cell of this kind at the front of these bytes
abbrev pub front_cell : Cell → List ℕ → ℤ
front_cell J bytes = cast_signed w32 (big_number 4 bytes)
front_cell K bytes = cast_signed w64 (big_number 8 bytes)

-- the cells of the row with these bytes
abbrev pub row_cells : List Column → List ℕ → List ℤ
row_cells [] bytes = []
row_cells (column ∷ columns) bytes = front_cell column.cell bytes ∷ row_cells columns (drop (cell_size column.cell) bytes)

-- the cells of the first n rows, row by row
abbrev pub table_cells : List Column → List ℕ → ℕ → List ℤ
table_cells columns bytes zero = []
table_cells columns bytes (suc n) =
    row_cells columns (take (row_size columns) bytes) ++ table_cells columns (drop (row_size columns) bytes) n
