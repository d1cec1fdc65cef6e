-- Bookkeeping: parts of a tile, read from the front of cells and bytes.
use Rattle.std.specs.Prelude.{◌≡◌, ◌+◌, ◌≤◌, ℤ, pos}
use Rattle.tile_laws.specs.declared.extents.Interval.{Interval}

-- two cells are the ends of this stretch of a side, counted from 1
pub record AreEndsOf (least greatest : ℤ) (side : Interval) : Type 0 where
  pub least_is : least ≡ pos (side.from + 1)
  pub greatest_is : greatest ≡ pos side.to
  pub low : side.from ≤ 65535
  pub high : side.to ≤ 65535
