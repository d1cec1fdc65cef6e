-- Bookkeeping: how far from 0 the values of an image can be.
use Rattle.std.specs.Prelude.{◌≡◌, ◌≢◌, ℕ, ◌+◌, ◌^◌, ◌==◌, ◌&&◌, min, Bool, ℤ, pos, neg_ℤ, ◌≤ℤ◌, unsigned_abs, Option, Some, if◌then◌else◌}
use Rattle.std.specs.Int.{int_max}
use Rattle.std.specs.Option.{option_eq}
use Rattle.std.specs.Ordering.{int_eq}
use Rattle.comp_tree.specs.Limits.{IsWithin}
use Rattle.pixel_plane.specs.declared.limits.Limits.{Limits}

-- what a stored number of fewer than eight bytes can be: with one or two it is from -2 ^ 15 to 2 ^ 15, with four from -2 ^ 31 to 2 ^ 31 - 1
pub record IsNumberOf (size : ℕ) (number : ℤ) : Type 0 where
  pub short : size ≢ 4 → size ≢ 8 → IsWithin (2 ^ 15) number
  pub four_low : size ≡ 4 → neg_ℤ (pos (2 ^ 31)) ≤ℤ number
  pub four_high : size ≡ 4 → number ≤ℤ pos 2147483647

-- a bound of all values in these limits
unfoldable pub limits_most : Limits → ℕ
limits_most limits = unsigned_abs (int_max (int_max limits.greatest (neg_ℤ limits.least)) (pos 0))

-- nothing is added, and the least number of four bytes stands for an undefined pixel
abbrev pub leaves_out_least : ℤ → Option ℤ → Bool
leaves_out_least zero blank = int_eq zero (pos 0) && option_eq int_eq blank (Some (neg_ℤ (pos (2 ^ 31))))

-- a bound of what numbers of four bytes stand for, whatever is added to each
abbrev pub most_of_four : ℕ
most_of_four = 2 ^ 33

-- a bound of all values that numbers of this size stand for and that are from -2 ^ 36 to 2 ^ 36
unfoldable pub numbers_most : ℕ → ℤ → Option ℤ → ℕ
numbers_most size zero blank =
    if size == 8 then 2 ^ 36
    else (if size == 4 then (if leaves_out_least zero blank then 2147483647 else most_of_four) else unsigned_abs zero + 2 ^ 15)

-- a bound of all values that they stand for and that are in these limits
unfoldable pub most_of : ℕ → ℤ → Option ℤ → Limits → ℕ
most_of size zero blank limits = min (numbers_most size zero blank) (limits_most limits)
