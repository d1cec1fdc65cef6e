-- Model: the bilinear interpolation between the centres of four cells, in whole numbers.
--
-- Lengths along a side are counted in half pixels from its start, so that each centre is a whole number. The centre of a cell is
-- that of a full one, also where the image's edge cuts it, and two centres are 2 * mesh apart.
use Rattle.std.specs.Prelude.{ℕ, ◌+◌, ◌-◌, ◌*◌, ◌/◌, ◌%◌, min, ℤ, pos, ◌+ℤ◌, ◌*ℤ◌, List}
use Rattle.std.specs.Int.{int_div_euclid}
use Rattle.mesh_background.specs.Smoothing.{number_in_grid}

-- the centres of pixel x and of cell i
abbrev pub pixel_centre : ℕ → ℕ
pixel_centre x = 2 * x + 1

abbrev pub cell_centre : ℕ → ℕ → ℕ
cell_centre mesh i = (2 * i + 1) * mesh

-- of cells without end, from 0, the first whose centre lies past that of pixel x
unfoldable pub next_cell : ℕ → ℕ → ℕ
next_cell mesh x = (pixel_centre x + mesh) / (2 * mesh)

-- how far the pixel's centre lies past that of the cell before
unfoldable pub past_centre : ℕ → ℕ → ℕ
past_centre mesh x = (pixel_centre x + mesh) % (2 * mesh)

-- the cells on both sides of the pixel. There are n: beyond the first and the last one these themselves are taken
abbrev pub cell_before : ℕ → ℕ → ℕ → ℕ
cell_before n mesh x = min (next_cell mesh x - 1) (n - 1)

abbrev pub cell_after : ℕ → ℕ → ℕ → ℕ
cell_after n mesh x = min (next_cell mesh x) (n - 1)

-- the number that lies `part` of `whole` parts of the way from p to q, times `whole`
unfoldable pub part_way : ℕ → ℕ → ℤ → ℤ → ℤ
part_way whole part p q = pos (whole - part) *ℤ p +ℤ pos part *ℤ q

-- the same in column i of cells, on the way from the row before pixel row y to the one after
abbrev pub down_column : List ℤ → ℕ → ℕ → ℕ → ℕ → ℕ → ℤ
down_column values columns rows mesh y i = part_way (2 * mesh) (past_centre mesh y)
    (number_in_grid values columns i (cell_before rows mesh y)) (number_in_grid values columns i (cell_after rows mesh y))

-- the level at the pixel in column x of row y, rounded down: between the column of cells before it and the one after
unfoldable pub interpolated : List ℤ → ℕ → ℕ → ℕ → ℕ → ℕ → ℤ
interpolated values columns rows mesh x y = int_div_euclid
    (part_way (2 * mesh) (past_centre mesh x)
    (down_column values columns rows mesh y (cell_before columns mesh x)) (down_column values columns rows mesh y (cell_after columns mesh x)))
    (pos (2 * mesh * (2 * mesh)))
