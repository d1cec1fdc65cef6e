-- Model: the law of a search that goes on.
use Rattle.std.specs.Prelude.{◌≡◌, ℕ, ◌+◌, ◌<◌, ◌≤◌, List, length}
use Rattle.fits_hdu.specs.declared.answer.Hdu.{Hdu}
use Rattle.fits_hdu.specs.Headers.{found}
use Rattle.fits_hdu.specs.Finding.{find_of, find_after_of}
use Rattle.fits_hdu.specs.Streams.{MeetsOtherBytes, MeetsOtherBytesAfter}

-- HDU n was found, and all its data are there
pub record HasData (bytes : List ℕ) (n : ℕ) (passed : Hdu) (head : ℕ) : Type 0 where
  pub is : find_of bytes n ≡ found passed head
  pub whole : head + passed.data_bytes ≤ length bytes

-- the search that goes on behind its data finds what the search from the start finds
abbrev pub SearchGoesOn : Type 0
SearchGoesOn = (bytes : List ℕ) (n number : ℕ) (passed : Hdu) (head : ℕ) → HasData bytes n passed head → n < number
    → find_after_of bytes n passed.data_bytes (head + passed.data_bytes) number ≡ find_of bytes number

-- and where it meets other bytes than an extension's, the search from the start meets them
abbrev pub OtherBytesAreMet : Type 0
OtherBytesAreMet = (bytes : List ℕ) (n number : ℕ) (passed : Hdu) (head : ℕ) → HasData bytes n passed head → n < number
    → MeetsOtherBytesAfter bytes n passed.data_bytes (head + passed.data_bytes) number → MeetsOtherBytes bytes (find_of bytes) 0 number
