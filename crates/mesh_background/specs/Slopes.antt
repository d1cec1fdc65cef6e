-- Bookkeeping: levels that rise by the same part of a unit from pixel to pixel, as the code carries them along.
use Rattle.std.specs.Prelude.{ℕ, ◌-◌, ◌+◌, ◌*◌, ◌/◌, ◌^◌, max, min, ℤ, pos, neg_ℤ, ◌+ℤ◌, ◌*ℤ◌, ◌≤ℤ◌}
use Rattle.std.specs.Int.{int_div_euclid}
use Rattle.mesh_background.specs.declared.slope.Mixed.{Mixed}

-- a mixed number, counted in parts, of which a unit has so many
abbrev pub in_parts : ℕ → Mixed → ℤ
in_parts parts m = pos parts *ℤ m.floor +ℤ pos m.rest

-- the level, rounded down, that is k steps behind the first one
abbrev pub steps_on : ℕ → Mixed → Mixed → ℕ → ℤ
steps_on parts level step k = int_div_euclid (in_parts parts level +ℤ pos k *ℤ in_parts parts step) (pos parts)

-- a step from one pixel to the next, so small that a level of pixels and it can be added up
pub record IsSmallStep (value : ℤ) : Type 0 where
  pub low : neg_ℤ (pos (2 ^ 60)) ≤ℤ value
  pub high : value ≤ℤ pos (2 ^ 60)

-- a number of parts that makes so small a step
pub record IsSmallTimes (parts : ℕ) (scaled : ℤ) : Type 0 where
  pub low : neg_ℤ (pos (parts * 2 ^ 60)) ≤ℤ scaled
  pub high : scaled ≤ℤ pos (parts * 2 ^ 60)

-- the first column of pixels, in an image of this width, for which `next` is the first column of cells whose centre lies past theirs
abbrev pub first_before : ℕ → ℕ → ℕ → ℕ
first_before mesh width next = min (max (next * mesh) ((mesh + 1) / 2) - (mesh + 1) / 2) width
