-- Model: what reading an image does to the bytes that are told.
use Rattle.std.specs.Prelude.{◌≡◌, ℕ, ◌⊎◌, List, [], ◌∷◌, Some, None}
use Rattle.std.specs.declared.option.Option.{Option}
use Rattle.dev_io.specs.Streams.{Takes, TakesAtMost}
use Rattle.comp_tree.specs.Raster.{Raster, IsPlane}
use Rattle.pixel_plane.specs.Verdicts.{Verdict, image, unfound, unreadable, truncated, out_of_range, taken_for}
use Rattle.pixel_plane.specs.declared.fault.PlaneFault.TheVariants.{TruncatedData, PixelRange}
use Rattle.pixel_plane.specs.declared.input_fault.Fault.TheVariants.{Hdu, Image, Plane}
use Rattle.pixel_plane.specs.declared.image.Stop.{Stop}
use Rattle.pixel_plane.specs.declared.image.Stop.TheVariants.{Refused, ReadFault, NoMemory}

-- the verdict is this image, and its bytes were taken
pub record ImageRead (found : Verdict) (bytes : List ℕ) (left : Option (List ℕ)) (plane : Raster) : Type 0 where
  pub head : ℕ
  pub end : ℕ
  pub is_image : found ≡ image plane head end
  pub whole : IsPlane plane
  pub takes : Takes bytes left end

-- how many bytes may have been taken when memory is wanted: those to the end of the header of an image, also of one that is cut or has a pixel
-- out of range, or those to the end of the image
abbrev pub memory_at_verdict : Verdict → List ℕ
memory_at_verdict (image plane head end) = head ∷ end ∷ []
memory_at_verdict (unfound fault taken) = []
memory_at_verdict (unreadable fault head) = []
memory_at_verdict (truncated head taken) = head ∷ []
memory_at_verdict (out_of_range head end pixel stored) = head ∷ []

-- one of these counts of bytes was taken
abbrev pub TakesOneOf : List ℕ → List ℕ → Option (List ℕ) → Type 0
TakesOneOf [] bytes left = ⊥
TakesOneOf (n ∷ counts) bytes left = Takes bytes left n ⊎ TakesOneOf counts bytes left

-- the stop by which the verdict shows, where it isn't an image
abbrev pub stop_of : Verdict → Option Stop
stop_of (image plane head end) = None
stop_of (unfound fault taken) = Some (Refused (Hdu fault))
stop_of (unreadable fault head) = Some (Refused (Image fault))
stop_of (truncated head taken) = Some (Refused (Plane TruncatedData))
stop_of (out_of_range head end pixel stored) = Some (Refused (Plane (PixelRange pixel stored)))

-- what a stop says of the bytes, by the stop that a verdict shows, the bytes that are taken for it, and the counts at which memory may be wanted:
-- a refusal is the verdict's, and its bytes were taken
abbrev pub StoppedBy : Option Stop → ℕ → List ℕ → List ℕ → Option (List ℕ) → Stop → Type 0
StoppedBy shown taken counts bytes left (Refused fault) = (shown ≡ Some (Refused fault)) × Takes bytes left taken
StoppedBy shown taken counts bytes left ReadFault = TakesAtMost bytes left taken
StoppedBy shown taken counts bytes left NoMemory = TakesOneOf counts bytes left

abbrev pub ImageStopped : Verdict → List ℕ → Option (List ℕ) → Stop → Type 0
ImageStopped found bytes left stop = StoppedBy (stop_of found) (taken_for found) (memory_at_verdict found) bytes left stop
