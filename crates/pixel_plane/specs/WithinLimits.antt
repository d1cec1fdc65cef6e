-- Bookkeeping: values that are within the limits of an image.
use Rattle.std.specs.Prelude.{◌≡◌, ℕ, List, ℤ, pos, neg_ℤ, ◌≤ℤ◌, Some, slice_get}
use Rattle.std.specs.declared.option.Option.{Option}
use Rattle.comp_tree.specs.Limits.{half_bound}
use Rattle.pixel_plane.specs.declared.limits.Limits.{Limits}

-- the value is from the least to the greatest
pub record IsInRange (limits : Limits) (value : ℤ) : Type 0 where
  pub low : limits.least ≤ℤ value
  pub high : value ≤ℤ limits.greatest

-- each value is
pub record HasValuesInLimits (limits : Limits) (values : List (Option ℤ)) : Type 0 where
  pub each : (p : ℕ) (v : ℤ) → slice_get values p ≡ Some (Some v) → IsInRange limits v

-- what is in these limits is within half of the range of a plane with so many pixels
pub record SuitCount (limits : Limits) (count : ℕ) : Type 0 where
  pub low : neg_ℤ (pos (half_bound count)) ≤ℤ limits.least
  pub high : limits.greatest ≤ℤ pos (half_bound count)
