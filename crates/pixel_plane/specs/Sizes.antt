-- Bookkeeping: what one stored number can be.
use Rattle.std.specs.Prelude.{◌≡◌, ℕ, ℤ, Bool, true, ◌==◌, ◌||◌}
use Rattle.std.specs.declared.option.Option.{Option}
use Rattle.pixel_plane.specs.declared.limits.Limits.{Limits}
use Rattle.pixel_plane.specs.Stored.{value_stored_as, is_out_of_range}

-- how many bytes it can have
abbrev pub is_number_size : ℕ → Bool
is_number_size size = size == 1 || size == 2 || size == 4 || size == 8

-- it is this one, and its value is out of range
pub record IsFarNumber (limits : Limits) (zero : ℤ) (blank : Option ℤ) (stored number : ℤ) : Type 0 where
  pub same : stored ≡ number
  pub far : is_out_of_range limits (value_stored_as zero blank number) ≡ true
