-- Bookkeeping: how far reading has come, and what stands behind each fault.
use Rattle.std.specs.Prelude.{◌≡◌, ℕ, ◌+◌, ◌*◌, ◌<◌, ◌≤◌, Bool, true, false, List, length, take, drop, Result, Ok, Err, Some, ℤ, IsTrue, ◌⊎◌}
use Rattle.std.specs.declared.option.Option.{Option}
use Rattle.dev_io.specs.Causes.{Rose}
use Rattle.dev_io.specs.Streams.{Takes, TakesAtMost}
use Rattle.fits_hdu.specs.declared.answer.Hdu.{Hdu}
use Rattle.fits_hdu.specs.declared.fault.HduFault.{HduFault}
use Rattle.fits_hdu.specs.declared.fault.HduFault.TheVariants.{TruncatedHeader, Groups, DataTooLong, TruncatedSkip, NoSuchHdu}
use Rattle.fits_hdu.specs.declared.fault.HduStop.{HduStop}
use Rattle.fits_hdu.specs.declared.fault.HduStop.TheVariants.{Fault, ReadFault}
use Rattle.fits_hdu.specs.declared.axes.Axes.{Axes}
use Rattle.fits_hdu.specs.declared.header.Mandatory.{Mandatory}
use Rattle.fits_hdu.specs.declared.header.Ended.{Ended}
use Rattle.fits_hdu.specs.Cards.{is_image, bitpix_of, natural}
use Rattle.fits_hdu.specs.Headers.{found, hdu_begins, stops, card_at, axis_count, axes_of, others_before, whole_header, header_at}
use Rattle.fits_hdu.specs.Finding.{padded, padding, find_on_of}
use Rattle.fits_hdu.specs.Streams.{OtherBytes, MeetsOtherBytes}
use Rattle.fits_hdu.specs.Kept.{kept_axes, kept_others}

-- the next 80 bytes were read
pub record CardRead (bytes : List ℕ) (at : ℕ) (left : Option (List ℕ)) (card : List ℕ) : Type 0 where
  pub card_is : card ≡ take 80 (drop at bytes)
  pub takes : Takes bytes left (at + 80)

-- they weren't
abbrev pub CardMissing : List ℕ → ℕ → Option (List ℕ) → HduStop → Type 0
CardMissing bytes at left (Fault TruncatedHeader) = (length bytes < at + 80) × Takes bytes left (length bytes)
CardMissing bytes at left ReadFault = TakesAtMost bytes left (at + 80)
CardMissing bytes at left (Fault fault) = ⊥

-- reading doesn't end up to card k, whose last byte was taken
pub record CardsPassed (bytes : List ℕ) (hdu start : ℕ) (left : Option (List ℕ)) (k : ℕ) : Type 0 where
  pub begun : hdu_begins hdu bytes start ≡ true
  pub passed : (j : ℕ) → 1 ≤ j → j ≤ k → stops bytes hdu start j ≡ false
  pub takes : Takes bytes left (start + 80 * k)

pub record FirstRead (bytes : List ℕ) (hdu start : ℕ) (left : Option (List ℕ)) (image : Bool) : Type 0 where
  pub reached : CardsPassed bytes hdu start left 1
  pub image_is : image ≡ is_image (card_at bytes start 1)

pub record BitpixRead (bytes : List ℕ) (hdu start : ℕ) (left : Option (List ℕ)) (bitpix : ℤ) : Type 0 where
  pub reached : CardsPassed bytes hdu start left 2
  pub bitpix_is : bitpix_of (card_at bytes start 2) ≡ Some bitpix

pub record NaxisRead (bytes : List ℕ) (hdu start : ℕ) (left : Option (List ℕ)) (naxis : ℕ) : Type 0 where
  pub reached : CardsPassed bytes hdu start left 3
  pub naxis_is : axis_count (card_at bytes start) ≡ naxis
  pub few : naxis ≤ 999

pub record AxisRead (bytes : List ℕ) (hdu start : ℕ) (left : Option (List ℕ)) (k size : ℕ) : Type 0 where
  pub reached : CardsPassed bytes hdu start left (3 + k)
  pub size_is : natural (card_at bytes start (3 + k)) ≡ Some size

pub record AxesRead (bytes : List ℕ) (hdu start : ℕ) (left : Option (List ℕ)) (naxis : ℕ) (axes : Axes) : Type 0 where
  pub reached : CardsPassed bytes hdu start left (3 + naxis)
  pub axes_are : axes ≡ kept_axes (axes_of (card_at bytes start))

pub record MandatoryRead (bytes : List ℕ) (hdu start : ℕ) (left : Option (List ℕ)) (cards : Mandatory) : Type 0 where
  pub reached : CardsPassed bytes hdu start left (3 + cards.naxis)
  pub image_is : cards.image ≡ is_image (card_at bytes start 1)
  pub bitpix_is : bitpix_of (card_at bytes start 2) ≡ Some cards.bitpix
  pub naxis_is : axis_count (card_at bytes start) ≡ cards.naxis
  pub few : cards.naxis ≤ 999
  pub axes_are : cards.axes ≡ kept_axes (axes_of (card_at bytes start))

-- END is the last card that was read
pub record EndRead (bytes : List ℕ) (hdu start : ℕ) (left : Option (List ℕ)) (ended : Ended) : Type 0 where
  pub whole : header_at bytes hdu start ≡ whole_header bytes hdu start ended.number
  pub others_are : ended.others ≡ kept_others (others_before (card_at bytes start) ended.number)
  pub takes : Takes bytes left (start + 80 * ended.number)
  pub most : ended.number ≤ 36000

-- The causes of faults.

-- A header or a skip that is cut short has found the end, a read fault has raised the count, and behind NoSuchHdu stands what is named.
abbrev pub Caused : Type 0 → Bool → ℕ → ℕ → HduStop → Type 0
Caused missing ended before now (Fault TruncatedHeader) = IsTrue ended
Caused missing ended before now (Fault TruncatedSkip) = IsTrue ended
Caused missing ended before now (Fault NoSuchHdu) = missing
Caused missing ended before now ReadFault = Rose before now
Caused missing ended before now (Fault fault) = Unit {0}

-- a fault of a header that was read, as the end of a search
abbrev pub stops_at_fault : Result Hdu HduFault → Result Hdu HduStop
stops_at_fault (Ok hdu) = Ok hdu
stops_at_fault (Err fault) = Err (Fault fault)

-- a fault that only a whole header shows
abbrev pub IsOfWholeHeader : HduStop → Type 0
IsOfWholeHeader stop = (stop ≡ Fault Groups) ⊎ (stop ≡ Fault DataTooLong)

-- the bytes that were left begin so
abbrev pub OtherLeft : Option (List ℕ) → ℕ → Type 0
OtherLeft left hdu = (bytes : List ℕ) (start : ℕ) → Takes bytes left start → OtherBytes bytes hdu start

-- no later HDU begins there: the end was found, or other bytes stand there
abbrev pub NotThere : Bool → Option (List ℕ) → ℕ → Type 0
NotThere ended left hdu = (0 < hdu) × (IsTrue ended ⊎ OtherLeft left hdu)

-- the same behind the padding of data of this size
abbrev pub OtherPastPadding : Option (List ℕ) → ℕ → ℕ → Type 0
OtherPastPadding left hdu size = (bytes : List ℕ) (start : ℕ) → Takes bytes left start → OtherBytes bytes hdu (start + padding size)

-- the same behind data of this size and its padding
abbrev pub OtherBehind : Option (List ℕ) → ℕ → ℕ → Type 0
OtherBehind left hdu size = (bytes : List ℕ) (head : ℕ) → Takes bytes left head → OtherBytes bytes hdu (head + padded size)

-- the same after HDU n or a later one
abbrev pub OtherLater : Option (List ℕ) → ℕ → Hdu → ℕ → Type 0
OtherLater left n hdu number = (bytes : List ℕ) (head : ℕ) → Takes bytes left head → MeetsOtherBytes bytes (find_on_of bytes n (found hdu head)) n number
