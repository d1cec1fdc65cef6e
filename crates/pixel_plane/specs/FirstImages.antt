-- Bookkeeping: the image of the earlier HDU, behind which the search goes on.
use Rattle.std.specs.Prelude.{◌≡◌, ℕ, ◌+◌, List}
use Rattle.std.specs.declared.option.Option.{Option}
use Rattle.dev_io.specs.Streams.{Takes}
use Rattle.comp_tree.specs.Raster.{IsPlane}
use Rattle.fits_hdu.specs.Headers.{found}
use Rattle.fits_hdu.specs.Finding.{find_of}
use Rattle.pixel_plane.specs.declared.limits.Limits.{Limits}
use Rattle.pixel_plane.specs.Verdicts.{image, verdict_on}
use Rattle.pixel_plane.specs.declared.two_images.FirstImage.{FirstImage}

-- the HDU with this number was found and is this image, and all its data were taken
pub record FirstImageRead (limits : Limits) (bytes : List ℕ) (number : ℕ) (left : Option (List ℕ)) (first : FirstImage) : Type 0 where
  pub head : ℕ
  pub is : find_of bytes number ≡ found first.hdu head
  pub is_image : verdict_on limits bytes number ≡ image first.plane head (head + first.hdu.data_bytes)
  pub whole : IsPlane first.plane
  pub takes : Takes bytes left (head + first.hdu.data_bytes)
