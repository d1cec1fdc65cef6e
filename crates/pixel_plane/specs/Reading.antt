-- Model: what the reading of a plane does to the bytes that are told.
use Rattle.std.specs.Prelude.{◌≡◌, ℕ, ◌*◌, ◌<◌, true, List, length, ℤ, pos, Some, None}
use Rattle.std.specs.declared.option.Option.{Option}
use Rattle.dev_io.specs.Streams.{Takes, TakesAtMost}
use Rattle.comp_tree.specs.declared.shape.Shape.{Shape}
use Rattle.comp_tree.specs.Raster.{Raster}
use Rattle.fits_hdu.specs.declared.answer.Hdu.{Hdu}
use Rattle.pixel_plane.specs.declared.limits.Limits.{Limits}
use Rattle.pixel_plane.specs.declared.fault.PlaneFault.TheVariants.{TruncatedData, PixelRange}
use Rattle.pixel_plane.specs.declared.fault.PlaneStop.{PlaneStop}
use Rattle.pixel_plane.specs.declared.fault.PlaneStop.TheVariants.{Fault, ReadFault, OutOfMemory}
use Rattle.pixel_plane.specs.Stored.{size_of, whole_or_zero, blank_of, value_stored_as, stored_plane, stored_at, is_out_of_range, holds_narrow, value_limits, first_out_of_range}

-- how many data bytes an image of this shape has
abbrev pub image_bytes : Hdu → Shape → ℕ
image_bytes hdu shape = shape.width * shape.height * size_of hdu

-- the plane of the first bytes, no pixel of it is out of range, and exactly these bytes were taken
pub record PlaneRead (limits : Limits) (hdu : Hdu) (shape : Shape) (bytes : List ℕ) (left : Option (List ℕ)) (plane : Raster) : Type 0 where
  pub plane_is : plane ≡ stored_plane hdu shape bytes
  pub none_out_of_range : first_out_of_range limits hdu shape bytes ≡ None
  pub takes : Takes bytes left (image_bytes hdu shape)

-- the least pixel out of range and its stored number, and exactly the image's bytes were taken
pub record PixelOutOfRange (limits : Limits) (hdu : Hdu) (shape : Shape) (bytes : List ℕ) (left : Option (List ℕ)) (pixel : ℕ) (stored : ℤ) : Type 0 where
  pub bits : holds_narrow (value_limits limits shape) ≡ true → hdu.bitpix ≡ pos 64
  pub least : first_out_of_range limits hdu shape bytes ≡ Some pixel
  pub number : stored ≡ stored_at hdu bytes pixel
  pub takes : Takes bytes left (image_bytes hdu shape)

-- why there is no plane: the bytes end before the image, and all were taken; all are there, and a pixel is out of range; the source failed;
-- or, before any byte, memory was wanted
abbrev pub PlaneStopped : Limits → Hdu → Shape → List ℕ → Option (List ℕ) → PlaneStop → Type 0
PlaneStopped limits hdu shape bytes left (Fault TruncatedData) = (length bytes < image_bytes hdu shape) × Takes bytes left (length bytes)
PlaneStopped limits hdu shape bytes left (Fault (PixelRange pixel stored)) = PixelOutOfRange limits hdu shape bytes left pixel stored
PlaneStopped limits hdu shape bytes left ReadFault = TakesAtMost bytes left (image_bytes hdu shape)
PlaneStopped limits hdu shape bytes left OutOfMemory = Takes bytes left 0

-- what is known of such a pixel also where the bytes aren't told
pub record MayBeOutOfRange (limits : Limits) (hdu : Hdu) (shape : Shape) (pixel : ℕ) (stored : ℤ) : Type 0 where
  pub bits : holds_narrow (value_limits limits shape) ≡ true → hdu.bitpix ≡ pos 64
  pub inside : pixel < shape.width * shape.height
  pub outside : is_out_of_range (value_limits limits shape) (value_stored_as (whole_or_zero hdu.bzero) (blank_of hdu.blank) stored) ≡ true

-- a fault that names a pixel comes with that alone
abbrev pub NamesPixel : Limits → Hdu → Shape → PlaneStop → Type 0
NamesPixel limits hdu shape (Fault (PixelRange pixel stored)) = MayBeOutOfRange limits hdu shape pixel stored
NamesPixel limits hdu shape stop = Unit {0}
