-- Bookkeeping: what an order made, and stands ready to be written.
use Rattle.std.specs.Prelude.{ℕ, List}
use Rattle.orders.specs.declared.words.Job.{Job}
use Rattle.orders.specs.declared.words.Job.TheVariants.{Tree, Filter, Detect, Trial, Measure}
use Rattle.tree_products.specs.Writables.{bytes_of, IsWritable}
use Rattle.measure_top.specs.MeasuredDetections.{IsMeasuredDetection, measured_bytes}
use Rattle.detect_top.specs.declared.making.Made.{Made}
use Rattle.detect_top.specs.declared.making.Made.TheVariants.{OfOne, OfTwo}

-- the bytes that are written of it
abbrev pub made_bytes : Made → List ℕ
made_bytes (OfOne product) = bytes_of product
made_bytes (OfTwo found) = measured_bytes found

-- it can be written
abbrev pub IsMade : Made → Type 0
IsMade (OfOne product) = IsWritable product
IsMade (OfTwo found) = IsMeasuredDetection found.shape found.map.items found.cells.items

-- the job works on one image of the input
abbrev pub IsOfInput : Job → Type 0
IsOfInput Tree = Unit {0}
IsOfInput (Filter rule criterion) = Unit {0}
IsOfInput (Detect choice) = Unit {0}
IsOfInput (Trial seed shape) = ⊥
IsOfInput (Measure choice values) = ⊥
