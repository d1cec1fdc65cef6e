-- Model: the numbers that an image stores (FITS Standard 4.0, section 5.2), and the plane of their values (section 4.4.2.5, BZERO and BLANK).
use Rattle.std.specs.Prelude.{ℕ, ◌*◌, ◌/◌, Bool, false, ◌==◌, ◌&&◌, not, List, drop, map, ℤ, pos, neg_ℤ, ◌+ℤ◌, ◌^◌, int_le}
use Rattle.std.specs.Prelude.{Option, Some, None, unsigned_abs, slice_index, if◌then◌else◌}
use Rattle.std.specs.List.{range_with_len, position}
use Rattle.std.specs.Ordering.{int_eq}
use Rattle.std.specs.Int.{w16, w32, w64, cast_signed}
use Rattle.byteorder.specs.Endian.{big_number}
use Rattle.comp_tree.specs.declared.shape.Shape.{Shape}
use Rattle.comp_tree.specs.Raster.{Raster}
use Rattle.fits_card.specs.declared.number.Whole.{Whole}
use Rattle.fits_card.specs.declared.number.Whole.TheVariants.{Is}
use Rattle.fits_hdu.specs.declared.answer.Hdu.{Hdu}
use Rattle.pixel_plane.specs.declared.limits.Limits.{Limits}
use Rattle.pixel_plane.specs.ImageLimits.{narrowed}

-- how many bytes a stored number has
abbrev pub size_of : Hdu → ℕ
size_of hdu = unsigned_abs hdu.bitpix / 8

-- the whole number of a keyword
abbrev pub whole_or_zero : Whole → ℤ
whole_or_zero (Is n) = n
whole_or_zero _ = pos 0

-- the stored number that stands for an undefined pixel, if there is one
abbrev pub blank_of : Option Whole → Option ℤ
blank_of (Some (Is n)) = Some n
blank_of _ = None

-- the stored number in the first bytes, the most significant byte first: one byte is unsigned, more are two's complement
abbrev pub stored_number : ℕ → List ℕ → ℤ
stored_number size bytes =
    if size == 1 then pos (slice_index bytes 0)
    else (if size == 2 then cast_signed w16 (big_number 2 bytes)
    else (if size == 4 then cast_signed w32 (big_number 4 bytes) else cast_signed w64 (big_number 8 bytes)))

abbrev pub is_blank : Option ℤ → ℤ → Bool
is_blank None stored = false
is_blank (Some blank) stored = int_eq stored blank

-- the value that a stored number stands for
abbrev pub value_stored_as : ℤ → Option ℤ → ℤ → Option ℤ
value_stored_as zero blank stored = if is_blank blank stored then None else Some (zero +ℤ stored)

-- the value of pixel p of numbers of this size
unfoldable pub pixel_at : ℕ → ℤ → Option ℤ → List ℕ → ℕ → Option ℤ
pixel_at size zero blank bytes p = value_stored_as zero blank (stored_number size (drop (p * size) bytes))

-- the value of pixel p of an image with these data bytes
abbrev pub pixel_value : Hdu → List ℕ → ℕ → Option ℤ
pixel_value hdu bytes p = pixel_at (size_of hdu) (whole_or_zero hdu.bzero) (blank_of hdu.blank) bytes p

-- the plane of an image of this shape
unfoldable pub stored_plane : Hdu → Shape → List ℕ → Raster
stored_plane hdu shape bytes =
    record { shape = shape; values = map (pixel_value hdu bytes) (range_with_len 0 (shape.width * shape.height)) }

-- the stored number of pixel p of an image with these data bytes
abbrev pub stored_at : Hdu → List ℕ → ℕ → ℤ
stored_at hdu bytes p = stored_number (size_of hdu) (drop (p * size_of hdu) bytes)

-- ---- the range of an image's values

-- the value is less than the least or greater than the greatest; an undefined pixel has no value
abbrev pub is_out_of_range : Limits → Option ℤ → Bool
is_out_of_range limits None = false
is_out_of_range limits (Some value) = not (int_le limits.least value && int_le value limits.greatest)

-- the limits hold the values of all numbers of fewer than 64 bits, whatever BZERO is accepted: only an image of 64 bits can have a pixel that is out of range
abbrev pub holds_narrow : Limits → Bool
holds_narrow limits = int_le limits.least (neg_ℤ (pos (2 ^ 33))) && int_le (pos (2 ^ 33)) limits.greatest

-- the limits of the values of an image of this shape
abbrev pub value_limits : Limits → Shape → Limits
value_limits limits shape = narrowed limits (shape.width * shape.height)

-- the least pixel that is out of range
unfoldable pub first_out_of_range : Limits → Hdu → Shape → List ℕ → Option ℕ
first_out_of_range limits hdu shape bytes = position (is_out_of_range (value_limits limits shape)) (stored_plane hdu shape bytes).values
