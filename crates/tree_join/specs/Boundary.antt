-- Model: where a row begins, and the boundary between two rows.
use Rattle.std.specs.Prelude.{◌≡◌, ℕ, ◌+◌, ◌-◌, ◌*◌, ◌/◌, List, Option, ℤ, IsTrue}
use Rattle.comp_tree.specs.declared.shape.Connect.{Connect}
use Rattle.comp_tree.specs.Raster.{Raster}
use Rattle.comp_tree.specs.Grid.{are_adjacent}
use Rattle.comp_tree.specs.Counts.{count_below, sum_below}

-- the first pixel of a row
abbrev pub row_start : Raster → ℕ → ℕ
row_start plane row = row * plane.shape.width

-- an adjacency between the rows row - 1 and row
pub record IsBoundary (values : List (Option ℤ)) (width : ℕ) (connect : Connect) (row p q : ℕ) : Type 0 where
  pub adjacent : IsTrue (are_adjacent values width connect p q)
  pub above : p / width + 1 ≡ row
  pub below : q / width ≡ row

-- how many pixels of the row above are adjacent to the pixel of this row in column x
abbrev pub above_size : List (Option ℤ) → ℕ → Connect → ℕ → ℕ → ℕ
above_size values width connect row x =
    count_below (λ y. are_adjacent values width connect ((row - 1) * width + y) (row * width + x)) width

-- how many adjacencies there are between the rows row - 1 and row
abbrev pub boundary_size : List (Option ℤ) → ℕ → Connect → ℕ → ℕ
boundary_size values width connect row = sum_below (above_size values width connect row) width
