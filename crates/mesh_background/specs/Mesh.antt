-- Model: a mesh of size M cuts an image from pixel 0 into cells of M by M pixels. The last cells of a row or a column may be short.
use Rattle.std.specs.Prelude.{ℕ, ◌+◌, ◌-◌, ◌*◌, ◌/◌, ◌%◌, ◌==◌, ℤ, pos, List, map, filter, Option, unwrap_or}
use Rattle.std.specs.List.{range_with_len}
use Rattle.comp_tree.specs.declared.shape.Shape.{Shape}
use Rattle.comp_tree.specs.Raster.{Raster, pixels, is_defined, level}
use Rattle.mesh_background.specs.Medians.{lower_median}

-- how many cells cover a side of so many pixels: the length over the mesh, rounded up
abbrev pub cells_along : ℕ → ℕ → ℕ
cells_along mesh side = (side + (mesh - 1)) / mesh

-- how many cells the mesh has
abbrev pub cell_count : ℕ → Shape → ℕ
cell_count mesh shape = cells_along mesh shape.width * cells_along mesh shape.height

-- the cell of pixel p. Cells are numbered row by row, from 0
unfoldable pub mesh_cell_of : ℕ → ℕ → ℕ → ℕ
mesh_cell_of mesh width p = p / width / mesh * cells_along mesh width + p % width / mesh

-- the pixels of a cell, in rising order
unfoldable pub cell_pixels : Raster → ℕ → ℕ → List ℕ
cell_pixels r mesh k = filter (λ p. mesh_cell_of mesh r.shape.width p == k) (pixels r)

-- the values of those pixels of a list that are defined
unfoldable pub defined_values : Raster → List ℕ → List ℤ
defined_values r ps = map (level r) (filter (is_defined r) ps)

-- the lower median of all defined pixels of the image, or 0 where it has none
unfoldable pub image_value : Raster → ℤ
image_value r = unwrap_or (lower_median (defined_values r (pixels r))) (pos 0)

-- the number of a cell without a defined pixel: the one that is given for such cells, or else the image's own median
abbrev pub empty_value : Option ℤ → Raster → ℤ
empty_value empty r = unwrap_or empty (image_value r)

-- the number of cell k: the lower median of its defined pixels, or where it has none, that of such cells
unfoldable pub mesh_value : Option ℤ → Raster → ℕ → ℕ → ℤ
mesh_value empty r mesh k = unwrap_or (lower_median (defined_values r (cell_pixels r mesh k))) (empty_value empty r)

-- the numbers of all cells, row by row
unfoldable pub values_of_mesh : Option ℤ → Raster → ℕ → List ℤ
values_of_mesh empty r mesh = map (mesh_value empty r mesh) (range_with_len 0 (cell_count mesh r.shape))
