-- Bookkeeping: the steps of the reading.
use Rattle.std.specs.Prelude.{◌≡◌, ℕ, ◌-◌, ◌*◌, ◌<◌, ◌≤◌, true, false, List, length, drop, ℤ, IfSome}
use Rattle.std.specs.declared.option.Option.{Option}
use Rattle.dev_io.specs.Streams.{Takes, TakesAtMost}
use Rattle.comp_tree.specs.Raster.{value_at}
use Rattle.pixel_plane.specs.declared.encoding.Encoding.{Encoding}
use Rattle.pixel_plane.specs.declared.fault.PlaneFault.TheVariants.{TruncatedData, PixelRange}
use Rattle.pixel_plane.specs.declared.fault.PlaneStop.{PlaneStop}
use Rattle.pixel_plane.specs.declared.fault.PlaneStop.TheVariants.{Fault, ReadFault, OutOfMemory}
use Rattle.pixel_plane.specs.Stored.{stored_number, value_stored_as, pixel_at, is_out_of_range, holds_narrow}
use Rattle.pixel_plane.specs.Nearness.{most_of}
use Rattle.pixel_plane.specs.WithinLimits.{IsInRange}
use Rattle.comp_tree.specs.Limits.{IsWithin}

-- the value of pixel p, where the numbers are encoded so
abbrev pub decoded : Encoding → List ℕ → ℕ → Option ℤ
decoded encoding bytes p = pixel_at encoding.size encoding.zero encoding.blank bytes p

-- a bound of the values of numbers that are encoded so
abbrev pub most_in : Encoding → ℕ
most_in encoding = most_of encoding.size encoding.zero encoding.blank encoding.limits

-- the pixels from the first up to the end have the values of the numbers in these bytes, and those before them stayed
pub record IsDecoded (encoding : Encoding) (bytes : List ℕ) (first end : ℕ) (old new : List (Option ℤ)) : Type 0 where
  pub before : (p : ℕ) → p < first → value_at new p ≡ value_at old p
  pub here : (p : ℕ) → first ≤ p → p < end → value_at new p ≡ decoded encoding bytes (p - first)

-- a value that a pixel of an image with these numbers can have, if it has one: it is in the limits, and within the bound
pub record SuitsEncoding (encoding : Encoding) (value : Option ℤ) : Type 0 where
  pub within : IfSome value (λ v. IsInRange encoding.limits v)
  pub near : IfSome value (λ v. IsWithin (most_in encoding) v)

-- the first n pixels of a run have the values of the numbers in these bytes
pub record IsRunDecoded (encoding : Encoding) (bytes : List ℕ) (run : List (Option ℤ)) (n : ℕ) : Type 0 where
  pub values : (k : ℕ) → k < n → value_at run k ≡ decoded encoding bytes k
  pub suit : (k : ℕ) → k < n → SuitsEncoding encoding (value_at run k)

-- number k of these bytes is this one, which has 8 bytes unless the limits leave out values of fewer, and its value is out of range
pub record IsFar (encoding : Encoding) (bytes : List ℕ) (k : ℕ) (stored : ℤ) : Type 0 where
  pub wide : holds_narrow encoding.limits ≡ true → encoding.size ≡ 8
  pub number : stored ≡ stored_number encoding.size (drop (k * encoding.size) bytes)
  pub far : is_out_of_range encoding.limits (decoded encoding bytes k) ≡ true

-- the decoding stopped at this pixel, which is out of range
pub record FarInside (encoding : Encoding) (bytes : List ℕ) (first end : ℕ) (old new : List (Option ℤ)) (pixel : ℕ) (stored : ℤ) : Type 0 where
  pub from : first ≤ pixel
  pub inside : pixel < end
  pub is_far : IsFar encoding bytes (pixel - first) stored
  pub decoded_before : IsDecoded encoding bytes first pixel old new

-- the first n pixels have the values of the bytes' numbers
abbrev pub AreDecoded : Encoding → List ℕ → List (Option ℤ) → ℕ → Type 0
AreDecoded encoding bytes values n = (p : ℕ) → p < n → value_at values p ≡ decoded encoding bytes p

-- and exactly the bytes of these numbers were taken
pub record ReadSoFar (encoding : Encoding) (bytes : List ℕ) (left : Option (List ℕ)) (values : List (Option ℤ)) (n : ℕ) : Type 0 where
  pub takes : Takes bytes left (n * encoding.size)
  pub are_decoded : AreDecoded encoding bytes values n

-- all pixels have their values
abbrev pub PixelsRead : Encoding → List ℕ → Option (List ℕ) → List (Option ℤ) → Type 0
PixelsRead encoding bytes left values = ReadSoFar encoding bytes left values (length values)

-- why so many bytes weren't all taken
abbrev pub BytesStopped : ℕ → List ℕ → Option (List ℕ) → PlaneStop → Type 0
BytesStopped total bytes left (Fault TruncatedData) = (length bytes < total) × Takes bytes left (length bytes)
BytesStopped total bytes left ReadFault = TakesAtMost bytes left total
BytesStopped total bytes left OutOfMemory = ⊥
BytesStopped total bytes left (Fault (PixelRange pixel stored)) = ⊥

-- why an image in which this pixel is out of range isn't read, where so many bytes were still to come
abbrev pub RestStopped : ℕ → ℕ → ℤ → List ℕ → Option (List ℕ) → PlaneStop → Type 0
RestStopped rest pixel stored bytes left (Fault (PixelRange p number)) = (p ≡ pixel) × (number ≡ stored) × Takes bytes left rest
RestStopped rest pixel stored bytes left stop = BytesStopped rest bytes left stop

-- of so many pixels this is the least that is out of range, and the bytes of all were taken
pub record FarRead (encoding : Encoding) (count : ℕ) (bytes : List ℕ) (left : Option (List ℕ)) (pixel : ℕ) (stored : ℤ) : Type 0 where
  pub inside : pixel < count
  pub is_far : IsFar encoding bytes pixel stored
  pub before : (p : ℕ) → p < pixel → is_out_of_range encoding.limits (decoded encoding bytes p) ≡ false
  pub takes : Takes bytes left (count * encoding.size)

-- why so many pixels weren't all read
abbrev pub PixelsStopped : Encoding → ℕ → List ℕ → Option (List ℕ) → PlaneStop → Type 0
PixelsStopped encoding count bytes left (Fault (PixelRange pixel stored)) = FarRead encoding count bytes left pixel stored
PixelsStopped encoding count bytes left stop = BytesStopped (count * encoding.size) bytes left stop

-- ---- the pixel that a fault names, also where the bytes aren't told

-- it names none
abbrev pub NamesNone : PlaneStop → Type 0
NamesNone (Fault (PixelRange pixel stored)) = ⊥
NamesNone stop = Unit {0}

-- no other than this
abbrev pub NamesOnly : ℕ → ℤ → PlaneStop → Type 0
NamesOnly pixel stored (Fault (PixelRange p number)) = (p ≡ pixel) × (number ≡ stored)
NamesOnly pixel stored stop = Unit {0}

-- one of so many, whose value is out of range
pub record IsFarPixel (encoding : Encoding) (count pixel : ℕ) (stored : ℤ) : Type 0 where
  pub wide : holds_narrow encoding.limits ≡ true → encoding.size ≡ 8
  pub inside : pixel < count
  pub far : is_out_of_range encoding.limits (value_stored_as encoding.zero encoding.blank stored) ≡ true

abbrev pub NamesFar : Encoding → ℕ → PlaneStop → Type 0
NamesFar encoding count (Fault (PixelRange pixel stored)) = IsFarPixel encoding count pixel stored
NamesFar encoding count stop = Unit {0}
