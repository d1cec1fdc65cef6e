-- Model: the limits of an image: how many pixels it has at most, and which values they have.
use Rattle.std.specs.Prelude.{◌≡◌, ℕ, ◌*◌, ◌^◌, Bool, true, ◌&&◌, nat_le, pos, neg_ℤ, Option}
use Rattle.std.specs.Int.{int_max, int_min}
use Rattle.std.proofs.Common.{arith}
use Rattle.std.proofs.lemmas.Bool.Decides.{nat_tests}
use Rattle.std.proofs.lemmas.Int.{ints}
use Rattle.comp_tree.specs.declared.shape.Shape.{Shape}
use Rattle.comp_tree.specs.Limits.{most_pixels, IsWithinLimits, half_bound}
use Rattle.comp_tree.specs.Shapes.{is_side, shape_if}
use Rattle.pixel_plane.specs.declared.limits.Limits.{Limits}
use Rattle.pixel_plane.specs.ValueRanges.{narrowed_range}

-- at most 2 ^ 24 pixels, with values from -2 ^ 36 to 2 ^ 36
unfoldable pub usual_limits : Limits
usual_limits = record {
  pixels = 2 ^ 24;
  least = neg_ℤ (pos (2 ^ 36));
  greatest = pos (2 ^ 36);
  range = record {
    least_low = omega (arith, ints);
    least_high = omega (arith, ints);
    greatest_low = omega (arith, ints);
    greatest_high = omega (arith, ints);
  };
}

-- as many pixels as a plane can have, with the same values
unfoldable pub wide_limits : Limits
wide_limits = record {
  pixels = most_pixels;
  least = neg_ℤ (pos (2 ^ 36));
  greatest = pos (2 ^ 36);
  range = record {
    least_low = omega (arith, ints);
    least_high = omega (arith, ints);
    greatest_low = omega (arith, ints);
    greatest_high = omega (arith, ints);
  };
}

-- those of an image with so many pixels: its values are also within half of the range of a plane with so many
unfoldable pub narrowed : Limits → ℕ → Limits
narrowed limits count = record {
  pixels = limits.pixels;
  least = int_max limits.least (neg_ℤ (pos (half_bound count)));
  greatest = int_min limits.greatest (pos (half_bound count));
  range = narrowed_range limits.least limits.greatest count limits.range;
}

-- a plane can have these sides
unfoldable pub fits_plane : ℕ → ℕ → Bool
fits_plane width height = (is_side width && is_side height) && nat_le (width * height) most_pixels

-- and no more pixels than the limits allow
unfoldable pub fits_within : Limits → ℕ → ℕ → Bool
fits_within limits width height = fits_plane width height && nat_le (width * height) limits.pixels

pub plane_sides : (width height : ℕ) → fits_plane width height ≡ true → IsWithinLimits width height
unfolding fits_plane
plane_sides width height h = record {
  some_columns = grind (arith, nat_tests);
  some_rows = grind (arith, nat_tests);
  few_columns = grind (arith, nat_tests);
  few_rows = grind (arith, nat_tests);
  few_pixels = grind (arith, nat_tests);
}

-- the shape of these sides, where a plane can have them
unfoldable pub plane_shape : ℕ → ℕ → Option Shape
plane_shape width height = shape_if width height (fits_plane width height) (plane_sides width height)
