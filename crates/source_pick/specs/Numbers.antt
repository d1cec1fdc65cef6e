-- Bookkeeping: how large the numbers are from which a catalogue row is made.
use Rattle.std.specs.Prelude.{ℕ, ◌+◌, ◌*◌, ◌/◌, ◌^◌, ◌<◌, ◌≤◌, ℤ, pos, ◌-ℤ◌, ◌*ℤ◌, ◌≤ℤ◌}
use Rattle.node_sums.specs.declared.entry.Sums.{Sums}
use Rattle.node_sums.specs.Sizes.{IsUpTo, HasSizes}

-- a sum of value times coordinate, a base and a sum of coordinates
pub record IsMoment (moment base : ℤ) (sum : ℕ) : Type 0 where
  pub moment_small : IsUpTo (2 ^ 84) moment
  pub base_small : IsUpTo (2 ^ 37) base
  pub sum_small : sum ≤ 2 ^ 47

-- a moment above the base, the sum of the coordinates, the flux and the area, where each coordinate is from low to high
pub record IsMean (moment : ℤ) (sum : ℕ) (flux : ℤ) (area low high : ℕ) : Type 0 where
  pub some : 0 < area
  pub few : area ≤ 2147483647
  pub ordered : low ≤ high
  pub high_small : high ≤ 65535
  pub sum_low : low * area ≤ sum
  pub sum_high : sum ≤ high * area
  pub not_negative : pos 0 ≤ℤ flux
  pub small : flux ≤ℤ pos (2 ^ 62)
  pub moment_low : (flux *ℤ pos low) ≤ℤ moment
  pub moment_high : moment ≤ℤ (flux *ℤ pos high)

-- an area, and sums of products of two coordinates and of either
pub record IsSpread (area products first second : ℕ) : Type 0 where
  pub some : 0 < area
  pub few : area ≤ 2147483647
  pub products_small : products ≤ 2 ^ 32 * area
  pub first_small : first ≤ 2 ^ 16 * area
  pub second_small : second ≤ 2 ^ 16 * area

-- what a row is made of
pub record IsMeasured (number : ℕ) (base flux : ℤ) (width : ℕ) (s : Sums) : Type 0 where
  pub few : number ≤ 2147483647
  pub some_columns : 0 < width
  pub few_columns : width ≤ 65535
  pub few_rows : s.first / width + 1 ≤ 65535
  pub base_up_to : IsUpTo (2 ^ 37) base
  pub sizes : HasSizes s
  pub across : IsMean (s.rx -ℤ base *ℤ pos s.x) s.x flux s.area s.xmin s.xmax
  pub along : IsMean (s.ry -ℤ base *ℤ pos s.y) s.y flux s.area s.ymin s.ymax
