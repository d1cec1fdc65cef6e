-- Model: the size of an HDU's data, exact however large its factors are (FITS Standard 4.0, section 4.4.1).
use Rattle.std.specs.Prelude.{ℕ, ◌+◌, ◌*◌, ◌/◌, Bool, true, false, List, [], ◌∷◌, ℤ, unsigned_abs}

abbrev pub product : List ℕ → ℕ
product [] = 1
product (n ∷ rest) = n * product rest

-- bytes of one number
abbrev pub number_bytes : ℤ → ℕ
number_bytes bitpix = unsigned_abs bitpix / 8

-- bytes of the data of a primary or an extension with these axes, PCOUNT and GCOUNT; without axes there is none
unfoldable pub data_size : Bool → ℤ → List ℕ → ℕ → ℕ → ℕ
data_size primary bitpix [] pcount gcount = 0
data_size true bitpix (n ∷ rest) pcount gcount = number_bytes bitpix * product (n ∷ rest)
data_size false bitpix (n ∷ rest) pcount gcount = number_bytes bitpix * (gcount * (pcount + product (n ∷ rest)))
