-- Model: the faults of an image and of its pixels: their numbers, their names, and the pixel at fault.
use Rattle.std.specs.Prelude.{ℕ, List, Option, Some, None, codes}
use Rattle.pixel_plane.specs.declared.fault.ImageFault.{ImageFault}
use Rattle.pixel_plane.specs.declared.fault.ImageFault.TheVariants.{NotImage, NoImage, ImageTooLarge, Bitpix, Bscale, Bzero, Blank}
use Rattle.pixel_plane.specs.declared.fault.PlaneFault.{PlaneFault}
use Rattle.pixel_plane.specs.declared.fault.PlaneFault.TheVariants.{TruncatedData, PixelRange}
use Rattle.pixel_plane.specs.declared.fault.PixelPlace.{PixelPlace}

abbrev pub image_fault_number : ImageFault → ℕ
image_fault_number NotImage = 10
image_fault_number NoImage = 11
image_fault_number ImageTooLarge = 12
image_fault_number Bitpix = 13
image_fault_number Bscale = 14
image_fault_number Bzero = 15
image_fault_number Blank = 16

abbrev pub image_fault_name : ImageFault → List ℕ
image_fault_name NotImage = codes "NotImage"
image_fault_name NoImage = codes "NoImage"
image_fault_name ImageTooLarge = codes "ImageTooLarge"
image_fault_name Bitpix = codes "Bitpix"
image_fault_name Bscale = codes "Bscale"
image_fault_name Bzero = codes "Bzero"
image_fault_name Blank = codes "Blank"

abbrev pub plane_fault_number : PlaneFault → ℕ
plane_fault_number TruncatedData = 17
plane_fault_number (PixelRange pixel stored) = 18

abbrev pub plane_fault_name : PlaneFault → List ℕ
plane_fault_name TruncatedData = codes "TruncatedData"
plane_fault_name (PixelRange pixel stored) = codes "PixelRange"

-- the pixel at fault, if it is one's fault
abbrev pub plane_fault_place : PlaneFault → Option PixelPlace
plane_fault_place TruncatedData = None
plane_fault_place (PixelRange pixel stored) = Some (record { pixel = pixel; stored = stored })
