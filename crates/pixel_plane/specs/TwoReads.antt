-- Model: what the reading of two HDUs does to the bytes that are told.
use Rattle.std.specs.Prelude.{◌≡◌, ℕ, List}
use Rattle.std.specs.declared.option.Option.{Option}
use Rattle.dev_io.specs.Streams.{Takes}
use Rattle.comp_tree.specs.Raster.{IsPlane}
use Rattle.pixel_plane.specs.declared.image.Stop.{Stop}
use Rattle.pixel_plane.specs.Streams.{StoppedBy}
use Rattle.pixel_plane.specs.declared.two_images.TwoPlanes.{TwoPlanes}
use Rattle.pixel_plane.specs.TwoImages.{TwoVerdict, two_images, taken_for_two, stop_of_two, memory_at_two}

-- the verdict is these two images, and their bytes were taken
pub record TwoRead (found : TwoVerdict) (bytes : List ℕ) (left : Option (List ℕ)) (planes : TwoPlanes) : Type 0 where
  pub head : ℕ
  pub end : ℕ
  pub head' : ℕ
  pub end' : ℕ
  pub are_images : found ≡ two_images planes.first head end planes.second head' end'
  pub first_whole : IsPlane planes.first
  pub second_whole : IsPlane planes.second
  pub takes : Takes bytes left end'

-- what a stop says of the bytes
abbrev pub TwoStopped : TwoVerdict → List ℕ → Option (List ℕ) → Stop → Type 0
TwoStopped found bytes left stop = StoppedBy (stop_of_two found) (taken_for_two found) (memory_at_two found) bytes left stop
