-- Model: which HDUs are images that can be read.
use Rattle.std.specs.Prelude.{◌^◌, Bool, true, false, ◌||◌, ◌&&◌, ◌==◌, not, nat_lt, ℤ, pos, neg_ℤ, int_le}
use Rattle.std.specs.Prelude.{List, [], ◌∷◌, Option, Some, None, Result, Ok, Err, if◌then◌else◌}
use Rattle.std.specs.Ordering.{int_eq}
use Rattle.comp_tree.specs.declared.shape.Shape.{Shape}
use Rattle.fits_card.specs.declared.number.Whole.{Whole}
use Rattle.fits_card.specs.declared.number.Whole.TheVariants.{Is}
use Rattle.fits_hdu.specs.declared.answer.Hdu.{Hdu}
use Rattle.fits_hdu.specs.Headers.{is_other}
use Rattle.pixel_plane.specs.declared.limits.Limits.{Limits}
use Rattle.pixel_plane.specs.ImageLimits.{fits_within, plane_shape}
use Rattle.pixel_plane.specs.declared.fault.ImageFault.{ImageFault}
use Rattle.pixel_plane.specs.declared.fault.ImageFault.TheVariants.{NotImage, NoImage, ImageTooLarge, Bitpix, Bscale, Bzero, Blank}

-- it has fewer than two axes, an empty one, or a further one that is longer than 1
abbrev pub has_no_pixels : Hdu → Bool
has_no_pixels hdu = nat_lt hdu.naxis 2 || hdu.width == 0 || hdu.height == 0 || not hdu.flat

-- the stored numbers have 8, 16, 32 or 64 bits
abbrev pub is_stored_size : ℤ → Bool
is_stored_size bitpix = int_eq bitpix (pos 8) || int_eq bitpix (pos 16) || int_eq bitpix (pos 32) || int_eq bitpix (pos 64)

abbrev pub is_one : Whole → Bool
is_one (Is n) = int_eq n (pos 1)
is_one _ = false

-- a whole number from -2 ^ 32 to 2 ^ 32
abbrev pub is_zero_point : Whole → Bool
is_zero_point (Is n) = int_le (neg_ℤ (pos (2 ^ 32))) n && int_le n (pos (2 ^ 32))
is_zero_point _ = false

-- there is no BLANK, or it is a whole number
abbrev pub is_blank_or_none : Option Whole → Bool
is_blank_or_none None = true
is_blank_or_none (Some (Is n)) = true
is_blank_or_none (Some _) = false

-- the first fault of which the test passes
abbrev pub first_fault : List (Bool × ImageFault) → Option ImageFault
first_fault [] = None
first_fault (test ∷ rest) = if test.0 then Some test.1 else first_fault rest

-- the first fault of an HDU as an image, if it has one
unfoldable pub image_fault : Limits → Hdu → Option ImageFault
image_fault limits hdu = first_fault (
    (is_other hdu.kind, NotImage)
    ∷ (has_no_pixels hdu, NoImage)
    ∷ (not (fits_within limits hdu.width hdu.height), ImageTooLarge)
    ∷ (not (is_stored_size hdu.bitpix), Bitpix)
    ∷ (not (is_one hdu.bscale), Bscale)
    ∷ (not (is_zero_point hdu.bzero), Bzero)
    ∷ (not (is_blank_or_none hdu.blank), Blank)
    ∷ [])

abbrev pub shape_unless : Option ImageFault → Option Shape → Result Shape ImageFault
shape_unless (Some fault) shape = Err fault
shape_unless None None = Err ImageTooLarge
shape_unless None (Some shape) = Ok shape

-- the shape of an HDU's image, or its first fault
unfoldable pub checked : Limits → Hdu → Result Shape ImageFault
checked limits hdu = shape_unless (image_fault limits hdu) (plane_shape hdu.width hdu.height)
