-- Model: the median filter over a grid of cells, whose numbers stand row by row in a list.
use Rattle.std.specs.Prelude.{ℕ, ◌+◌, ◌*◌, ◌/◌, ◌%◌, ◌&&◌, nat_le, ℤ, pos, List, map, filter, slice_index_or, unwrap_or}
use Rattle.std.specs.List.{range_with_len, flat_map}
use Rattle.mesh_background.specs.Medians.{lower_median}

-- the number of the cell in column i and row j
abbrev pub number_in_grid : List ℤ → ℕ → ℕ → ℕ → ℤ
number_in_grid values columns i j = slice_index_or values (j * columns + i) (pos 0)

-- those of n columns, or rows, from i - 1 to i + 1
unfoldable pub places_around : ℕ → ℕ → List ℕ
places_around n i = filter (λ k. nat_le i (k + 1) && nat_le k (i + 1)) (range_with_len 0 n)

-- the numbers of a cell and of the cells around it
unfoldable pub numbers_around : List ℤ → ℕ → ℕ → ℕ → ℕ → List ℤ
numbers_around values columns rows i j = flat_map (λ l. map (λ k. number_in_grid values columns k l) (places_around columns i)) (places_around rows j)

-- the filtered number of cell n: their lower median
unfoldable pub filtered_number : List ℤ → ℕ → ℕ → ℕ → ℤ
filtered_number values columns rows n = unwrap_or (lower_median (numbers_around values columns rows (n % columns) (n / columns))) (pos 0)

-- the filtered numbers of all cells
unfoldable pub filtered_mesh : List ℤ → ℕ → ℕ → List ℤ
filtered_mesh values columns rows = map (filtered_number values columns rows) (range_with_len 0 (columns * rows))
