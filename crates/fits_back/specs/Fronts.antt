-- Bookkeeping: what stands at the front of bytes.
use Rattle.std.specs.Prelude.{◌≡◌, ℕ, List, ◌++◌, length}
use Rattle.fits_write.specs.Blocks.{filled}

-- the bytes don't begin with this front
abbrev pub BeginsNot : List ℕ → List ℕ → Type 0
BeginsNot front bytes = (rest : List ℕ) → bytes ≡ front ++ rest → ⊥

-- the bytes don't begin with data of this many bytes that zero bytes fill to whole blocks
abbrev pub BeginsWithNoData : ℕ → List ℕ → Type 0
BeginsWithNoData count bytes = (data_bytes rest : List ℕ) → length data_bytes ≡ count → bytes ≡ filled 0 data_bytes ++ rest → ⊥
