-- Model: what a search for an HDU does to the bytes that are told, and what stands where no HDU was found.
use Rattle.std.specs.Prelude.{◌≡◌, ℕ, ◌+◌, ◌<◌, ◌≤◌, ◌⊎◌, false, List, length, Result, Ok, Err}
use Rattle.std.specs.declared.option.Option.{Option}
use Rattle.dev_io.specs.Streams.{Takes, TakesAtMost}
use Rattle.fits_hdu.specs.declared.answer.Hdu.{Hdu}
use Rattle.fits_hdu.specs.declared.fault.HduStop.{HduStop}
use Rattle.fits_hdu.specs.declared.fault.HduStop.TheVariants.{Fault, ReadFault}
use Rattle.fits_hdu.specs.Headers.{Found, found, refused, hdu_begins}
use Rattle.fits_hdu.specs.Finding.{padded, padding, find_after_of, taken_by}

-- a read fault took no more than was to be taken; any other fault is the one that was to be found, and took its bytes
abbrev pub Stopped : Found → List ℕ → Option (List ℕ) → HduStop → Type 0
Stopped expected bytes left (Fault fault) = (taken : ℕ) × (expected ≡ refused fault taken) × Takes bytes left taken
Stopped expected bytes left ReadFault = TakesAtMost bytes left (taken_by expected)

-- finding an HDU
abbrev pub Finds : Found → List ℕ → Option (List ℕ) → Result Hdu HduStop → Type 0
Finds expected bytes left (Ok hdu) = (head : ℕ) × (expected ≡ found hdu head) × Takes bytes left head
Finds expected bytes left (Err stop) = Stopped expected bytes left stop

-- other bytes than an HDU's stand where it is to begin
pub record OtherBytes (bytes : List ℕ) (hdu start : ℕ) : Type 0 where
  pub there : start + 8 ≤ length bytes
  pub other : hdu_begins hdu bytes start ≡ false

-- a search finds an HDU, from n on, after which other bytes than an extension's stand; the next has at most this number
pub record MeetsOtherBytes (bytes : List ℕ) (search : ℕ → Found) (n number : ℕ) : Type 0 where
  pub before : ℕ
  pub from : n ≤ before
  pub earlier : before < number
  pub hdu : Hdu
  pub head : ℕ
  pub is : search before ≡ found hdu head
  pub other : OtherBytes bytes (before + 1) (head + padded hdu.data_bytes)

-- the same after HDU n, whose data of this size end here: other bytes stand behind its padding, or after a later HDU
abbrev pub MeetsOtherBytesAfter : List ℕ → ℕ → ℕ → ℕ → ℕ → Type 0
MeetsOtherBytesAfter bytes n size start number =
    OtherBytes bytes (n + 1) (start + padding size) ⊎ MeetsOtherBytes bytes (find_after_of bytes n size start) (n + 1) number
