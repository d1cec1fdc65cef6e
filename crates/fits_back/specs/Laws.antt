-- Model: bytes say which HDU they are, and where it ends.
use Rattle.std.specs.Prelude.{◌≡◌, ℕ, ◌*◌, ◌^◌, ◌<◌, List, ◌++◌, length, ℤ, FitsSigned}
use Rattle.std.specs.List.{All}
use Rattle.std.specs.Int.{w64}
use Rattle.comp_tree.specs.declared.shape.Shape.{Shape}
use Rattle.fits_write.specs.declared.table.Column.{Column}
use Rattle.fits_write.specs.Columns.{IsTable}
use Rattle.fits_write.specs.Hdus.{named_hdu, map_hdu}

-- Where tables of one name and the same columns have the same bytes, whatever stands behind them, they have the same cells, and the same
-- stands behind them.
abbrev pub TablesAreToldApart : Type 0
TablesAreToldApart =
    (name : List ℕ) (columns : List Column) (xs ys : List ℤ) (a b : List ℕ) → IsTable columns xs → IsTable columns ys → All (FitsSigned w64) xs
    → All (FitsSigned w64) ys → named_hdu name columns xs ++ a ≡ named_hdu name columns ys ++ b → (xs ≡ ys) × (a ≡ b)

-- So with maps of one shape, whose numbers fit 32 bits.
abbrev pub MapsAreToldApart : Type 0
MapsAreToldApart =
    (shape : Shape) (xs ys a b : List ℕ) → length xs ≡ shape.width * shape.height → length ys ≡ shape.width * shape.height
    → All (λ n. n < 2 ^ 32) xs → All (λ n. n < 2 ^ 32) ys → map_hdu shape xs ++ a ≡ map_hdu shape ys ++ b → (xs ≡ ys) × (a ≡ b)
