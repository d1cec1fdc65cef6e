-- Model: the values that a trial works on are small.
use Rattle.std.specs.Prelude.{◌≡◌, ℕ, ◌^◌, List, Option, ℤ, pos, neg_ℤ, ◌≤◌, ◌≤ℤ◌, length, Some, slice_get}

-- what a value of the image less its background can be
pub record IsSmall (value : ℤ) : Type 0 where
  pub low : neg_ℤ (pos 255) ≤ℤ value
  pub high : value ≤ℤ pos 255

-- each value of a plane is so, and there are at most 2 ^ 24, so that the fluxes of all nodes add up to a number of 64 bits
pub record HasSmallValues (values : List (Option ℤ)) : Type 0 where
  pub each : (p : ℕ) (v : ℤ) → slice_get values p ≡ Some (Some v) → IsSmall v
  pub few : length values ≤ 2 ^ 24
