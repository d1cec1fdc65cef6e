-- Model: how a whole number stands in a word.
use Rattle.std.specs.Prelude.{ℕ, Bool, ◌&&◌, ◌==◌, List, [], ◌∷◌, length, nat_lt, nat_le, ℤ, int_le, Option, Some, None, if◌then◌else◌}
use Rattle.std.specs.List.{list_all}
use Rattle.std.specs.Char.{is_ascii_digit}
use Rattle.std.specs.Str.Parse.{signed_digits_value}

-- the word without its minus
abbrev pub without_minus : List ℕ → List ℕ
without_minus [] = []
without_minus (first ∷ rest) = if first == 45 then rest else first ∷ rest

-- 1 to 19 digits
abbrev pub is_short_numeral : List ℕ → Bool
is_short_numeral digits = (nat_lt 0 (length digits) && nat_le (length digits) 19) && list_all is_ascii_digit digits

-- an optional minus and 1 to 19 digits
unfoldable pub whole_number : List ℕ → Option ℤ
whole_number text = if is_short_numeral (without_minus text) then Some (signed_digits_value 10 text) else None

abbrev pub within : ℤ → ℤ → Option ℤ → Option ℤ
within least most None = None
within least most (Some n) = if int_le least n && int_le n most then Some n else None

-- the whole number from least to most that the word is
abbrev pub number_between : ℤ → ℤ → List ℕ → Option ℤ
number_between least most text = within least most (whole_number text)
