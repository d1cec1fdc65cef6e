-- Model: the 80 bytes of written cards, in fixed format.
use Rattle.std.specs.Prelude.{ℕ, ◌-◌, Bool, ◌&&◌, ◌==◌, not, nat_le, List, [], ◌∷◌, ◌++◌, length, replicate, codes, ℤ, if◌then◌else◌}
use Rattle.std.specs.Fmt.{decimal, signed_decimal}
use Rattle.fits_card.specs.Pieces.{space, quote}

abbrev pub spaces : ℕ → List ℕ
spaces n = replicate n space

-- filled with spaces up to so many bytes
abbrev pub left_justified : ℕ → List ℕ → List ℕ
left_justified width bytes = bytes ++ spaces (width - length bytes)

abbrev pub right_justified : ℕ → List ℕ → List ℕ
right_justified width bytes = spaces (width - length bytes) ++ bytes

-- the keyword with this root and number, filled with spaces to eight columns
unfoldable pub numbered_keyword : List ℕ → ℕ → List ℕ
numbered_keyword root n = left_justified 8 (root ++ decimal n)

-- a printing character that isn't a quote
abbrev pub is_plain : ℕ → Bool
is_plain b = nat_le 32 b && nat_le b 126 && not (b == quote)

-- the name in columns 1 to 8, `= `, and the value from column 11 on
abbrev pub written_value : List ℕ → List ℕ → List ℕ
written_value name value = left_justified 80 (name ++ codes "= " ++ value)

-- the letter stands in column 30
unfoldable pub written_logical : List ℕ → Bool → List ℕ
written_logical name value = written_value name (right_justified 20 ((if value then 84 else 70) ∷ []))

-- the last digit stands in column 30
unfoldable pub written_integer : List ℕ → ℤ → List ℕ
written_integer name value = written_value name (right_justified 20 (signed_decimal value))

-- at least eight characters stand between the quotes
unfoldable pub written_text : List ℕ → List ℕ → List ℕ
written_text name text = written_value name (quote ∷ left_justified 8 text ++ quote ∷ [])

unfoldable pub written_end : List ℕ
written_end = left_justified 80 (codes "END")
