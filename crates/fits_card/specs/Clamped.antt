-- Bookkeeping: the exponent as the code keeps it.
use Rattle.std.specs.Prelude.{ℤ, pos, negsuc, min}

-- e, or 1000 or -1000 where e is beyond these
abbrev pub clamped : ℤ → ℤ
clamped (pos n) = pos (min n 1000)
clamped (negsuc n) = negsuc (min n 999)
