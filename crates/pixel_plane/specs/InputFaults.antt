-- Model: the faults of an input: their numbers, their names, and what of the reading they are.
use Rattle.std.specs.Prelude.{ℕ, List, Option, None, codes}
use Rattle.std.specs.Option.{option_map}
use Rattle.fits_hdu.specs.declared.fault.HduFault.TheVariants.{TruncatedHeader, TruncatedSkip}
use Rattle.fits_hdu.specs.Faults.{hdu_fault_number, hdu_fault_name, hdu_fault_place}
use Rattle.pixel_plane.specs.declared.fault.PlaneFault.TheVariants.{TruncatedData}
use Rattle.pixel_plane.specs.Faults.{image_fault_number, image_fault_name, plane_fault_number, plane_fault_name, plane_fault_place}
use Rattle.pixel_plane.specs.declared.input_fault.Fault.{Fault}
use Rattle.pixel_plane.specs.declared.input_fault.Fault.TheVariants.{Hdu, Image, Plane, ShapeDiffers}
use Rattle.pixel_plane.specs.declared.input_fault.Place.{Place}
use Rattle.pixel_plane.specs.declared.input_fault.Place.TheVariants.{Card, Pixel}
use Rattle.pixel_plane.specs.declared.image.Stop.{Stop}
use Rattle.pixel_plane.specs.declared.image.Stop.TheVariants.{Refused}

abbrev pub fault_number : Fault → ℕ
fault_number (Hdu fault) = hdu_fault_number fault
fault_number (Image fault) = image_fault_number fault
fault_number (Plane fault) = plane_fault_number fault
fault_number ShapeDiffers = 19

abbrev pub fault_name : Fault → List ℕ
fault_name (Hdu fault) = hdu_fault_name fault
fault_name (Image fault) = image_fault_name fault
fault_name (Plane fault) = plane_fault_name fault
fault_name ShapeDiffers = codes "ShapeDiffers"

-- the card or the pixel at fault, if it is one's fault
abbrev pub place_of : Fault → Option Place
place_of (Hdu fault) = option_map Card (hdu_fault_place fault)
place_of (Plane fault) = option_map Pixel (plane_fault_place fault)
place_of _ = None

-- a fault that only the end of the input shows
abbrev pub IsCutShort : Fault → Type 0
IsCutShort (Hdu TruncatedHeader) = Unit {0}
IsCutShort (Hdu TruncatedSkip) = Unit {0}
IsCutShort (Plane TruncatedData) = Unit {0}
IsCutShort _ = ⊥

abbrev pub IsCutStop : Stop → Type 0
IsCutStop (Refused fault) = IsCutShort fault
IsCutStop _ = ⊥
