-- Bookkeeping: planes that are written pixel by pixel.
use Rattle.std.specs.Prelude.{◌≡◌, ℕ, ◌<◌, ℤ, length, Option}
use Rattle.comp_tree.specs.Raster.{Raster, value_at}

-- a plane of the shape of r, in which the first n pixels are those that f gives
pub record IsWritten (r : Raster) (f : ℕ → Option ℤ) (n : ℕ) (new : Raster) : Type 0 where
  pub shape_is : new.shape ≡ r.shape
  pub one_each : length new.values ≡ length r.values
  pub written : (p : ℕ) → p < n → value_at new.values p ≡ f p
