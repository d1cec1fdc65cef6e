-- Model: the verdict on two HDUs of one input, and by which stop it shows.
use Rattle.std.specs.Prelude.{ℕ, Bool, false, not, ◌&&◌, ◌==◌, List, [], ◌∷◌, Option, Some, None, if◌then◌else◌}
use Rattle.std.specs.Result.{result_ok}
use Rattle.comp_tree.specs.declared.shape.Shape.{Shape}
use Rattle.comp_tree.specs.Raster.{Raster}
use Rattle.fits_hdu.specs.Headers as at_header
use Rattle.fits_hdu.specs.Finding.{find_of}
use Rattle.pixel_plane.specs.declared.limits.Limits.{Limits}
use Rattle.pixel_plane.specs.Images.{checked}
use Rattle.pixel_plane.specs.Verdicts.{Verdict, image, unfound, unreadable, truncated, out_of_range, verdict_on, taken_for}
use Rattle.pixel_plane.specs.declared.input_fault.Fault.TheVariants.{ShapeDiffers}
use Rattle.pixel_plane.specs.declared.image.Stop.{Stop}
use Rattle.pixel_plane.specs.declared.image.Stop.TheVariants.{Refused}
use Rattle.pixel_plane.specs.Streams.{memory_at_verdict, stop_of}

-- The numbers `head` and `end` are those of the earlier HDU: the end of its header, and the place after its last data byte.
-- With a prime they are those of the later one.
pub data TwoVerdict : Type 0 where
  -- both images
  two_images : (first : Raster) (head end : ℕ) (second : Raster) (head' end' : ℕ) → TwoVerdict
  -- the verdict on the earlier HDU, which is a fault
  earlier_fault : (found : Verdict) → TwoVerdict
  -- the earlier HDU is an image; the verdict on the later one, which is the fault
  later_fault : (head end : ℕ) (found : Verdict) → TwoVerdict
  -- the earlier HDU is an image, and the header of the later one describes an image of another shape
  shapes_differ : (head end head' : ℕ) → TwoVerdict

-- the shape of the image that a header describes, also where the data are cut or out of range
abbrev pub shape_found : Limits → at_header.Found → Option Shape
shape_found limits (at_header.found hdu head) = result_ok (checked limits hdu)
shape_found limits (at_header.refused fault taken) = None

-- the shape of the image that the header of the HDU with this number describes
unfoldable pub header_shape : Limits → List ℕ → ℕ → Option Shape
header_shape limits bytes number = shape_found limits (find_of bytes number)

-- the two images differ in width or height
abbrev pub is_other_shape : Shape → Option Shape → Bool
is_other_shape one None = false
is_other_shape one (Some other) = not (one.width == other.width && one.height == other.height)

-- the verdict on two, where the earlier HDU is this image, by the verdict on the later one and the shape that its header describes
abbrev pub verdict_beside : Raster → ℕ → ℕ → Verdict → Option Shape → TwoVerdict
verdict_beside first head end (unfound fault taken) shape = later_fault head end (unfound fault taken)
verdict_beside first head end (unreadable fault head') shape = later_fault head end (unreadable fault head')
verdict_beside first head end (truncated head' taken) shape =
    if is_other_shape first.shape shape then shapes_differ head end head' else later_fault head end (truncated head' taken)
verdict_beside first head end (out_of_range head' end' pixel stored) shape =
    if is_other_shape first.shape shape then shapes_differ head end head' else later_fault head end (out_of_range head' end' pixel stored)
verdict_beside first head end (image second head' end') shape =
    if is_other_shape first.shape shape then shapes_differ head end head' else two_images first head end second head' end'

-- by the verdict on each
abbrev pub combined_verdict : Verdict → Verdict → Option Shape → TwoVerdict
combined_verdict (image first head end) later shape = verdict_beside first head end later shape
combined_verdict fault later shape = earlier_fault fault

-- the verdict on the HDUs with the lesser and the greater number: a fault of the lesser one; else a fault of the search for the greater one
-- or of its header; else that the shapes differ; else that the data of the greater one are cut or out of range; else both images
unfoldable pub verdict_on_two : Limits → List ℕ → ℕ → ℕ → TwoVerdict
verdict_on_two limits bytes lesser greater = combined_verdict (verdict_on limits bytes lesser) (verdict_on limits bytes greater) (header_shape limits bytes greater)

-- how many bytes are taken for it
abbrev pub taken_for_two : TwoVerdict → ℕ
taken_for_two (two_images first head end second head' end') = end'
taken_for_two (earlier_fault found) = taken_for found
taken_for_two (later_fault head end found) = taken_for found
taken_for_two (shapes_differ head end head') = head'

-- how many bytes may have been taken when memory is wanted: those to the end of the header of each image, or to the end of the image; none is
-- wanted for the later HDU where it isn't found or isn't an image that can be read, and where the shapes differ
abbrev pub memory_at_two : TwoVerdict → List ℕ
memory_at_two (two_images first head end second head' end') = head ∷ end ∷ head' ∷ end' ∷ []
memory_at_two (earlier_fault found) = memory_at_verdict found
memory_at_two (later_fault head end found) = head ∷ end ∷ memory_at_verdict found
memory_at_two (shapes_differ head end head') = head ∷ end ∷ []

-- the stop by which the verdict shows, where it isn't two images
abbrev pub stop_of_two : TwoVerdict → Option Stop
stop_of_two (two_images first head end second head' end') = None
stop_of_two (earlier_fault found) = stop_of found
stop_of_two (later_fault head end found) = stop_of found
stop_of_two (shapes_differ head end head') = Some (Refused ShapeDiffers)
