-- Bookkeeping: the rows that the header of a table announces.
use Rattle.std.specs.Prelude.{ℕ, List, ℤ, Option, take, drop}
use Rattle.fits_card.specs.Values.{value_of, integer_of}

-- the integer in the fifth card of the header at the front of these bytes
unfoldable pub announced : List ℕ → Option ℤ
announced bytes = integer_of (value_of (take 80 (drop 320 bytes)))
