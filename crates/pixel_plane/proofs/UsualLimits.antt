-- The usual limits are what they say: an image fits where it has at most 2 ^ 24 pixels, and none of its values is cut by their count.
use Rattle.std.proofs.Common.{◌≡◌, ℕ, ◌*◌, ◌^◌, ◌≤◌, Bool, true, false, ◌&&◌, pos, neg_ℤ, refl, ap, arith}
use Rattle.std.specs.Prelude.{nat_le}
use Rattle.std.specs.Int.{int_max, int_min}
use Rattle.std.proofs.lemmas.Bool.Decides.{nat_tests}
use Rattle.comp_tree.specs.Shapes.{is_side, fits_limits}
use Rattle.comp_tree.specs.Limits.{most_pixels}
use Rattle.comp_tree.proofs.Exported.{usual_half}
use Rattle.pixel_plane.specs.ImageLimits.{usual_limits, narrowed, fits_plane, fits_within}
use Rattle.pixel_plane.proofs.OneLimits.{limits_are}

pub usual_fits : (width height : ℕ) → fits_within usual_limits width height ≡ fits_limits width height
unfolding fits_within fits_plane fits_limits usual_limits
usual_fits width height = by (is_side width && is_side height) (nat_le (width * height) most_pixels) (nat_le (width * height) (2 ^ 24)) refl refl
  where
    by : (sides wide few : Bool) → nat_le (width * height) most_pixels ≡ wide → nat_le (width * height) (2 ^ 24) ≡ few
        → ((sides && wide) && few) ≡ (sides && few)
    by false wide few e f = refl
    by true true few e f = refl
    by true false false e f = refl
    by true false true e f = absurd (grind (arith, nat_tests))

pub usual_kept : (count : ℕ) → count ≤ 2 ^ 24 → narrowed usual_limits count ≡ usual_limits
unfolding narrowed usual_limits
usual_kept count few =
    limits_are (2 ^ 24) _ _ (neg_ℤ (pos (2 ^ 36))) (pos (2 ^ 36)) _ _
    (ap (λ b. int_max (neg_ℤ (pos (2 ^ 36))) (neg_ℤ (pos b))) (usual_half count few))
    (ap (λ b. int_min (pos (2 ^ 36)) (pos b)) (usual_half count few))
