-- Model: what the bytes of an input are: the stored image of the HDU with a number, or their first fault.
use Rattle.std.specs.Prelude.{ℕ, ◌+◌, ℤ, List, length, drop, Option, Some, None, Result, Ok, Err, nat_lt, if◌then◌else◌}
use Rattle.comp_tree.specs.declared.shape.Shape.{Shape}
use Rattle.comp_tree.specs.Raster.{Raster}
use Rattle.fits_hdu.specs.declared.answer.Hdu.{Hdu}
use Rattle.fits_hdu.specs.declared.fault.HduFault.{HduFault}
use Rattle.fits_hdu.specs.Headers as at_header
use Rattle.fits_hdu.specs.Finding.{find_of}
use Rattle.pixel_plane.specs.declared.limits.Limits.{Limits}
use Rattle.pixel_plane.specs.declared.fault.ImageFault.{ImageFault}
use Rattle.pixel_plane.specs.Images.{checked}
use Rattle.pixel_plane.specs.Stored.{stored_plane, stored_at, first_out_of_range}
use Rattle.pixel_plane.specs.Reading.{image_bytes}

pub data Verdict : Type 0 where
  -- the image, the end of its header and the place after its last data byte
  image : (plane : Raster) → (head end : ℕ) → Verdict
  -- no HDU was found, and so many bytes are taken
  unfound : (fault : HduFault) → (taken : ℕ) → Verdict
  -- the HDU isn't an image that can be read
  unreadable : (fault : ImageFault) → (head : ℕ) → Verdict
  -- the bytes end before the image does
  truncated : (head taken : ℕ) → Verdict
  -- all bytes of the image are there, and this is its least pixel out of range, with its stored number
  out_of_range : (head end pixel : ℕ) (stored : ℤ) → Verdict

-- the image in these data bytes, unless a pixel is out of range
abbrev pub image_unless : List ℕ → Hdu → ℕ → Shape → Option ℕ → Verdict
image_unless bytes hdu head shape None = image (stored_plane hdu shape bytes) head (head + image_bytes hdu shape)
image_unless bytes hdu head shape (Some pixel) = out_of_range head (head + image_bytes hdu shape) pixel (stored_at hdu bytes pixel)

-- the image behind a header
abbrev pub image_behind : Limits → List ℕ → Hdu → ℕ → Shape → Verdict
image_behind limits bytes hdu head shape =
    if nat_lt (length bytes) (head + image_bytes hdu shape) then truncated head (length bytes)
    else image_unless (drop head bytes) hdu head shape (first_out_of_range limits hdu shape (drop head bytes))

abbrev pub verdict_on_hdu : Limits → List ℕ → Hdu → ℕ → Result Shape ImageFault → Verdict
verdict_on_hdu limits bytes hdu head (Err fault) = unreadable fault head
verdict_on_hdu limits bytes hdu head (Ok shape) = image_behind limits bytes hdu head shape

abbrev pub verdict_on_found : Limits → List ℕ → at_header.Found → Verdict
verdict_on_found limits bytes (at_header.found hdu head) = verdict_on_hdu limits bytes hdu head (checked limits hdu)
verdict_on_found limits bytes (at_header.refused fault taken) = unfound fault taken

-- the verdict on the HDU with this number
unfoldable pub verdict_on : Limits → List ℕ → ℕ → Verdict
verdict_on limits bytes number = verdict_on_found limits bytes (find_of bytes number)

-- how many bytes are taken for it
abbrev pub taken_for : Verdict → ℕ
taken_for (image plane head end) = end
taken_for (unfound fault taken) = taken
taken_for (unreadable fault head) = head
taken_for (truncated head taken) = taken
taken_for (out_of_range head end pixel stored) = end
