-- The rows of a table one after the other, and how many cells they have.
use Rattle.std.proofs.Common.{◌≡◌, ◌∙◌, ℕ, zero, suc, ◌+◌, ◌*◌, List, [], ◌∷◌, ◌++◌, length, take, drop, refl, sym, ap, add-one, append_assoc}
use Rattle.std.proofs.Common.{append-nil, drop-drop, mul-suc, mul-zero, add_comm}
use Rattle.std.proofs.lemmas.List.Sums.{sum_by-cons}
use Rattle.fits_write.specs.declared.table.Column.{Column}
use Rattle.fits_write.specs.Columns.{cell_size, row_size}
use Rattle.fits_write.specs.Rows.{row_cells, table_cells}

-- a row has the bytes of its first column, and those of the others
pub size_more : (column : Column) (columns : List Column) → row_size (column ∷ columns) ≡ cell_size column.cell + row_size columns
size_more column columns = sum_by-cons (λ c. cell_size c.cell) column columns

-- a row has a cell for each column
pub length-row_cells : (columns : List Column) (bytes : List ℕ) → length (row_cells columns bytes) ≡ length columns
length-row_cells [] bytes = refl
length-row_cells (column ∷ columns) bytes = ap suc (length-row_cells columns (drop (cell_size column.cell) bytes))

-- the next row behind the first n
pub table_cells-more : (columns : List Column) (bytes : List ℕ) (n : ℕ)
    → table_cells columns bytes (n + 1) ≡ table_cells columns bytes n ++ row_cells columns (take (row_size columns) (drop (row_size columns * n) bytes))
table_cells-more columns bytes n = rw add-one (by bytes n)
  where
    by : (bytes : List ℕ) (n : ℕ) → table_cells columns bytes (suc n)
        ≡ table_cells columns bytes n ++ row_cells columns (take (row_size columns) (drop (row_size columns * n) bytes))
    by bytes zero = append-nil (row_cells columns (take (row_size columns) bytes))
        ∙ ap (λ k. row_cells columns (take (row_size columns) (drop k bytes))) (sym (mul-zero (row_size columns)))
    by bytes (suc n) =
        let size = row_size columns in
        let behind : drop (size * n) (drop size bytes) ≡ drop (size * suc n) bytes =
        drop-drop (size * n) size bytes ∙ ap (λ k. drop k bytes) (add_comm size (size * n) ∙ sym (mul-suc size n)) in
        ap (λ l. row_cells columns (take size bytes) ++ l) (by (drop size bytes) n
        ∙ ap (λ l. table_cells columns (drop size bytes) n ++ row_cells columns (take size l)) behind)
        ∙ sym (append_assoc (row_cells columns (take size bytes)) (table_cells columns (drop size bytes) n) _)
