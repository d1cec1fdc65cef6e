-- Model: what the sources of an image are in a second one, which is seen through the same windows.
use Rattle.std.specs.Prelude.{ℕ, IsTrue, ℤ, slice_index}
use Rattle.comp_tree.specs.Raster.{Raster, is_at_least}
use Rattle.comp_tree.specs.Components.{IsReached}
use Rattle.comp_tree.specs.Windows.{Box, in_whole, is_in_box, seen_through}
use Rattle.source_pick.specs.Sources.{sources}
use Rattle.dual_measure.specs.declared.values.Measure.{Measure}
use Rattle.dual_measure.specs.Measures.{measure_of, back_of}
use Rattle.tile_laws.specs.Clear.{IsSureBox}
use Rattle.tile_laws.specs.Pieces.{DetectionChoice, Piece, searched}

-- the measure of source k of an image, counted from 0, in the values: a second image, less its own background. (A number that is given for cells
-- without a value is one for both images.)
abbrev pub measured : DetectionChoice → Raster → Raster → ℕ → Measure
measured d r values k = measure_of (searched d values) (searched d r) d.connect (slice_index (sources (searched d r) d.connect d.choice) k)

-- and its back: the mean of the values around it in its parent
abbrev pub backed : DetectionChoice → Raster → Raster → ℕ → ℤ
backed d r values k = back_of (searched d values) (searched d r) d.connect (slice_index (sources (searched d r) d.connect d.choice) k)

-- the component of the piece's pixel q at the threshold lies in a box in which the background of the values is theirs, too
pub record HasMeasuredBox (d : DetectionChoice) (r values : Raster) (t : Piece) (q : ℕ) : Type 0 where
  pub box : Box
  pub sure : IsSureBox d.empty values t.window d.flat d.mesh box
  pub holds : (b : ℕ) → IsReached (searched d (seen_through t.window r)) d.connect d.choice.threshold q b
      → IsTrue (is_in_box values.shape.width box (in_whole values.shape.width t.window b))

-- so does that of each pixel of the core that has at least the threshold
abbrev pub MeasuresItsCore : DetectionChoice → Raster → Raster → Piece → Type 0
MeasuresItsCore d r values t = (q : ℕ) → IsTrue (t.core (in_whole r.shape.width t.window q))
    → IsTrue (is_at_least (searched d (seen_through t.window r)) d.choice.threshold q) → HasMeasuredBox d r values t q
