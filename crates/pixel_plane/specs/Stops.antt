-- Bookkeeping: the stops of the crates below, as those of the reading of an image.
use Rattle.fits_hdu.specs.declared.fault.HduStop.{HduStop}
use Rattle.fits_hdu.specs.declared.fault.HduStop.TheVariants as at_hdu
use Rattle.pixel_plane.specs.declared.fault.PlaneStop.{PlaneStop}
use Rattle.pixel_plane.specs.declared.fault.PlaneStop.TheVariants as at_plane
use Rattle.pixel_plane.specs.declared.input_fault.Fault.TheVariants.{Hdu, Plane}
use Rattle.pixel_plane.specs.declared.image.Stop.{Stop}
use Rattle.pixel_plane.specs.declared.image.Stop.TheVariants.{Refused, ReadFault, NoMemory}

-- why the reading of an image stops: where its HDU isn't found
abbrev pub stop_at_hdu : HduStop → Stop
stop_at_hdu (at_hdu.Fault fault) = Refused (Hdu fault)
stop_at_hdu at_hdu.ReadFault = ReadFault

-- and where its pixels aren't read
abbrev pub stop_at_plane : PlaneStop → Stop
stop_at_plane (at_plane.Fault fault) = Refused (Plane fault)
stop_at_plane at_plane.ReadFault = ReadFault
stop_at_plane at_plane.OutOfMemory = NoMemory
