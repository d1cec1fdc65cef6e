-- Model: the fixed data of a run, and the job of each of its strips.
use Rattle.std.specs.Prelude.{◌≡◌, ℕ, ◌+◌, ◌-◌, ◌*◌, ◌/◌, ◌^◌, ◌<◌, ◌≤◌, List, [], map, length, slice_index, slice_index_or}
use Rattle.std.specs.List.{range_with_len}
use Rattle.std.proofs.Common.{arith}
use Rattle.comp_tree.specs.declared.shape.Connect.{Connect}
use Rattle.comp_tree.specs.declared.shape.Connect.TheVariants.{Four}
use Rattle.comp_tree.specs.Limits.{IsWithinLimits}
use Rattle.comp_tree.specs.Raster.{Raster}
use Rattle.strip_flood.specs.Jobs.{JobView, SuitsStrip}

-- the plane, the connectivity, and the first row of each strip
pub record Plan : Type 0 where
  pub plane : Raster
  pub connect : Connect
  pub cut : List ℕ

pub record Run : Type 0 where
  pub plan : Plan
  pub workers : ℕ

abbrev pub plan_of : Raster → Connect → List ℕ → Plan
plan_of plane connect cut = record { plane = plane; connect = connect; cut = cut }

abbrev pub run_with : Raster → Connect → List ℕ → ℕ → Run
run_with plane connect cut workers = record { plan = plan_of plane connect cut; workers = workers }

-- the number of strips
abbrev pub strips : Run → ℕ
strips run = length run.plan.cut

-- the first row of strip k, or the height where there is no such strip
abbrev pub row_at : Plan → ℕ → ℕ
row_at plan k = slice_index_or plan.cut k plan.plane.shape.height

pub one_pixel : IsWithinLimits 1 1
one_pixel = record { some_columns = omega arith; some_rows = omega arith; few_columns = omega arith; few_rows = omega arith; few_pixels = omega arith }

-- the run of a seat that was joined away: of one pixel, with no strip and no worker
abbrev pub no_run : Run
no_run = run_with (record { shape = record { width = 1; height = 1; within_limits = one_pixel }; values = [] }) Four [] 0

-- in a plane of more than 2 ^ 24 pixels no strip of a cut has more than that, which is as many as its flooding may have
abbrev pub HasShortStrips : ℕ → ℕ → List ℕ → Type 0
HasShortStrips width height cut =
    2 ^ 24 < width * height → (i : ℕ) → i < length cut → (slice_index_or cut (i + 1) height - slice_index cut i) * width ≤ 2 ^ 24

-- the limits of a run
pub record IsSized (strips workers : ℕ) : Type 0 where
  pub some_strip : 0 < strips
  pub most_strips : strips ≤ 65535
  pub some_worker : 0 < workers
  pub most_workers : workers ≤ 64

-- the job fits the plane, and has the connectivity and the rows of strip i
pub record IsJobOf (plan : Plan) (i : ℕ) (job : JobView) : Type 0 where
  pub fit : SuitsStrip job plan.plane
  pub connect : job.connect ≡ plan.connect
  pub first_row : job.first_row ≡ slice_index plan.cut i
  pub end_row : job.end_row ≡ row_at plan (i + 1)

-- for each i below n, the row i * height / count, rounded down
unfoldable pub rows_of_cut : ℕ → ℕ → ℕ → List ℕ
rows_of_cut height count n = map (λ i. i * height / count) (range_with_len 0 n)

-- the first rows of so many strips that have nearly one height
abbrev pub even_rows : ℕ → ℕ → List ℕ
even_rows height count = rows_of_cut height count count
