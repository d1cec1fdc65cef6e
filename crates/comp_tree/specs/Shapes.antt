-- Model: the shape of an image with given sides.
use Rattle.std.specs.Prelude.{◌≡◌, ℕ, ◌*◌, ◌^◌, Bool, true, false, ◌&&◌, nat_lt, nat_le, Option, Some, None}
use Rattle.std.proofs.Common.{refl, arith}
use Rattle.std.proofs.lemmas.Bool.Decides.{nat_tests}
use Rattle.comp_tree.specs.declared.shape.Shape.{Shape}
use Rattle.comp_tree.specs.Limits.{IsWithinLimits, IsWithinUsualLimits}

-- a side is from 1 to 65,535
abbrev pub is_side : ℕ → Bool
is_side n = nat_lt 0 n && nat_le n 65535

-- both sides are, and there are at most 2 ^ 24 pixels
unfoldable pub fits_limits : ℕ → ℕ → Bool
fits_limits width height = (is_side width && is_side height) && nat_le (width * height) (2 ^ 24)

pub usual_from : (width height : ℕ) → fits_limits width height ≡ true → IsWithinUsualLimits width height
unfolding fits_limits
usual_from width height h = record {
  some_columns = grind (arith, nat_tests);
  some_rows = grind (arith, nat_tests);
  few_columns = grind (arith, nat_tests);
  few_rows = grind (arith, nat_tests);
  few_pixels = grind (arith, nat_tests);
}

pub widened : (width height : ℕ) → IsWithinUsualLimits width height → IsWithinLimits width height
widened width height k = record {
  some_columns = k.some_columns;
  some_rows = k.some_rows;
  few_columns = k.few_columns;
  few_rows = k.few_rows;
  few_pixels = omega (arith, k.few_pixels);
}

pub limits_from : (width height : ℕ) → fits_limits width height ≡ true → IsWithinLimits width height
limits_from width height h = widened width height (usual_from width height h)

abbrev pub shape_if : (width height : ℕ) (within : Bool) → (within ≡ true → IsWithinLimits width height) → Option Shape
shape_if width height true limits = Some (record { width = width; height = height; within_limits = limits refl })
shape_if width height false limits = None

-- the shape of these sides, where they are within the limits
unfoldable pub shape_of : ℕ → ℕ → Option Shape
shape_of width height = shape_if width height (fits_limits width height) (limits_from width height)
