-- Bookkeeping: how large the sums over some pixels of a plane are, by the number of these pixels.
use Rattle.std.specs.Prelude.{ℕ, ◌*◌, ◌^◌, ◌≤◌, ℤ, pos, neg_ℤ, ◌*ℤ◌, ◌≤ℤ◌}
use Rattle.node_sums.specs.declared.entry.Sums.{Sums}

-- a whole number lies between -m and m
pub record IsUpTo (m : ℕ) (z : ℤ) : Type 0 where
  pub low : neg_ℤ (pos m) ≤ℤ z
  pub high : z ≤ℤ pos m

-- how far from zero the values of planes lie at most, a value times a coordinate, and the sum of the values of a plane
abbrev pub level_bound : ℕ
level_bound = 2 ^ 37

abbrev pub moment_bound : ℕ
moment_bound = 2 ^ 53

abbrev pub total_bound : ℕ
total_bound = 2 ^ 61

-- how large the sums over some pixels of a plane are, by their number
pub record HasSizes (s : Sums) : Type 0 where
  pub area : s.area ≤ 2147483647
  pub r : IsUpTo total_bound s.r
  pub x : s.x ≤ 2 ^ 16 * s.area
  pub y : s.y ≤ 2 ^ 16 * s.area
  pub xx : s.xx ≤ 2 ^ 32 * s.area
  pub xy : s.xy ≤ 2 ^ 32 * s.area
  pub yy : s.yy ≤ 2 ^ 32 * s.area
  pub rx : IsUpTo (moment_bound * s.area) s.rx
  pub ry : IsUpTo (moment_bound * s.area) s.ry

-- how large the numbers are of which a flux is made: an area, the sum of the values, and a base
pub record HasFluxSizes (area : ℕ) (r base : ℤ) : Type 0 where
  pub few : area ≤ 2147483647
  pub sum : IsUpTo total_bound r
  pub level : IsUpTo level_bound base
  pub product : IsUpTo total_bound (base *ℤ pos area)
