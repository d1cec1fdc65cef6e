-- Bookkeeping: boxes by their sides.
use Rattle.std.specs.Prelude.{ℕ, ◌<◌}

-- two intervals share a place
pub record DoMeetAlong (from to other end : ℕ) : Type 0 where
  pub first : from < end
  pub second : other < to
