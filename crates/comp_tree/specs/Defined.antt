-- Bookkeeping: optional values that are there.
use Rattle.std.specs.Prelude.{IsTrue, is_some, Option, ℤ}

-- the pixel is defined
abbrev pub HasValue : Option ℤ → Type 0
HasValue v = IsTrue (is_some v)
