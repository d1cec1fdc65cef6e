-- Model: the HDU with a number, from 0, of a list of bytes. The HDUs before it are skipped (FITS Standard 4.0, section 3.3).
use Rattle.std.specs.Prelude.{ℕ, zero, suc, ◌+◌, ◌-◌, ◌*◌, ◌/◌, List, length, if◌then◌else◌, nat_lt}
use Rattle.fits_hdu.specs.declared.fault.HduFault.TheVariants.{NoSuchHdu, TruncatedSkip}
use Rattle.fits_hdu.specs.Headers.{Found, found, refused, header_at}

-- so many bytes in whole blocks
abbrev pub padded : ℕ → ℕ
padded n = 2880 * ((n + 2879) / 2880)

-- what fills the last block of so many bytes
abbrev pub padding : ℕ → ℕ
padding n = padded n - n

-- the HDU with this number, after an HDU whose data of this size starts here
unfoldable pub following : List ℕ → ℕ → ℕ → ℕ → Found
following bytes hdu size head =
    if nat_lt (length bytes) (head + size) then refused TruncatedSkip (length bytes)
    else (if nat_lt (length bytes) (head + padded size) then refused NoSuchHdu (length bytes)
    else header_at bytes hdu (head + padded size))

-- the HDU with this number, by what the one before it is
abbrev pub following_found : List ℕ → ℕ → Found → Found
following_found bytes hdu (refused fault taken) = refused fault taken
following_found bytes hdu (found before head) = following bytes hdu before.data_bytes head

-- the HDU with this number, or the first fault
unfoldable pub find_of : List ℕ → ℕ → Found
find_of bytes zero = header_at bytes 0 0
find_of bytes (suc n) = following_found bytes (suc n) (find_of bytes n)

-- Where an HDU was found before, the search goes on from it.

-- the HDU so many after HDU n, by what HDU n is
unfoldable pub counted_on : List ℕ → ℕ → Found → ℕ → Found
counted_on bytes n first zero = first
counted_on bytes n first (suc k) = following_found bytes (n + suc k) (counted_on bytes n first k)

-- the HDU with this number, from n on, by what HDU n is
abbrev pub find_on_of : List ℕ → ℕ → Found → ℕ → Found
find_on_of bytes n first number = counted_on bytes n first (number - n)

-- the HDU with this number, where the padding of the data before it starts here; the data have this size
unfoldable pub past_padding : List ℕ → ℕ → ℕ → ℕ → Found
past_padding bytes hdu size start =
    if nat_lt (length bytes) (start + padding size) then refused NoSuchHdu (length bytes)
    else header_at bytes hdu (start + padding size)

-- the HDU with this number, after HDU n, whose data of this size end here
abbrev pub find_after_of : List ℕ → ℕ → ℕ → ℕ → ℕ → Found
find_after_of bytes n size start number = find_on_of bytes (n + 1) (past_padding bytes (n + 1) size start) number

-- the bytes that are taken
abbrev pub taken_by : Found → ℕ
taken_by (found hdu head) = head
taken_by (refused fault taken) = taken
