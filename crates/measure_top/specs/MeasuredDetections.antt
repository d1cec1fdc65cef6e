-- Model: what stands ready to be written.
use Rattle.std.specs.Prelude.{◌≡◌, ℕ, ◌*◌, ◌≤◌, List, length, ℤ}
use Rattle.std.specs.List.{All}
use Rattle.comp_tree.specs.declared.shape.Shape.{Shape}
use Rattle.fits_write.specs.Columns.{IsTable}
use Rattle.fits_write.specs.CatalogueColumns.{measured_columns}
use Rattle.measure_top.specs.declared.measuring.Measured.{Measured}
use Rattle.measure_top.specs.MeasuredCatalogues.{measured_hdus}

-- the bytes that are written of it
abbrev pub measured_bytes : Measured → List ℕ
measured_bytes found = measured_hdus found.shape found.map.items found.cells.items

-- a map and cells that can be written
pub record IsMeasuredDetection (shape : Shape) (numbers : List ℕ) (cells : List ℤ) : Type 0 where
  pub one_each : length numbers ≡ shape.width * shape.height
  pub small : All (λ n. n ≤ 2147483647) numbers
  pub table : IsTable measured_columns cells
