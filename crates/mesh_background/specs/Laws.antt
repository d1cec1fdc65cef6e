-- Model: the laws of the lower median, of the cells, of the interpolation and of the residual.
use Rattle.std.specs.Prelude.{◌≡◌, ◌↔◌, ℕ, ◌+◌, ◌-◌, ◌*◌, ◌/◌, ◌%◌, ◌<◌, Bool, ℤ, pos, ◌≤ℤ◌, ◌+ℤ◌, ◌*ℤ◌, List, length, Option, Some, IsSome, IfSome, All}
use Rattle.std.specs.Int.{int_div_euclid}
use Rattle.comp_tree.specs.Limits.{IsWithin, half_bound}
use Rattle.comp_tree.specs.Raster.{Raster, IsPlane, HasValuesInRange, HasValuesInHalfRange}
use Rattle.mesh_background.specs.Medians.{IsLowerMedian, lower_median}
use Rattle.mesh_background.specs.Mesh.{mesh_cell_of, image_value}
use Rattle.mesh_background.specs.Interpolation.{pixel_centre, cell_centre, next_cell, past_centre, cell_before, cell_after, interpolated}
use Rattle.mesh_background.specs.Smoothing.{number_in_grid}
use Rattle.mesh_background.specs.Residuals.{residual_with, residual_of}

-- the lower median of a list is the one number that is so by the counts
abbrev pub LowerMedianIsTheOne : Type 0
LowerMedianIsTheOne = (xs : List ℤ) (v : ℤ) → (lower_median xs ≡ Some v) ↔ IsLowerMedian xs v

-- a list that isn't empty has one
abbrev pub SomeMemberIsLowerMedian : Type 0
SomeMemberIsLowerMedian = (xs : List ℤ) → 0 < length xs → IsSome (lower_median xs)

-- two pixels have one cell exactly where their columns, and their rows, have one quotient by the size of the mesh
abbrev pub CellsAreSquares : Type 0
CellsAreSquares = (mesh width p q : ℕ) → 0 < mesh → 0 < width
    → (mesh_cell_of mesh width p ≡ mesh_cell_of mesh width q) ↔ ((p % width / mesh ≡ q % width / mesh) × (p / width / mesh ≡ q / width / mesh))

-- the centre of pixel x lies from that of the cell before its next one up to that of the next one
abbrev pub PixelsLieBetweenCentres : Type 0
PixelsLieBetweenCentres = (mesh x : ℕ) → 0 < mesh
    → (cell_centre mesh (next_cell mesh x) + past_centre mesh x ≡ pixel_centre x + 2 * mesh) × (past_centre mesh x < 2 * mesh)

-- the weights of the four cells around a pixel that lies t of `whole` parts across and u of `whole` parts down from the first one's centre:
-- of the first, of the one below it, of the one beside it, and of the last
abbrev pub weight_first : ℕ → ℕ → ℕ → ℕ
weight_first whole t u = (whole - t) * (whole - u)

abbrev pub weight_below : ℕ → ℕ → ℕ → ℕ
weight_below whole t u = (whole - t) * u

abbrev pub weight_beside : ℕ → ℕ → ℕ → ℕ
weight_beside whole t u = t * (whole - u)

abbrev pub weight_last : ℕ → ℕ → ℕ → ℕ
weight_last whole t u = t * u

-- the numbers of these four cells in column i or j and in row k or l, each times its weight
abbrev pub weighed : ℕ → ℕ → ℕ → List ℤ → ℕ → ℕ → ℕ → ℕ → ℕ → ℤ
weighed whole t u values columns i j k l =
    (pos (weight_first whole t u) *ℤ number_in_grid values columns i k +ℤ pos (weight_below whole t u) *ℤ number_in_grid values columns i l)
    +ℤ (pos (weight_beside whole t u) *ℤ number_in_grid values columns j k +ℤ pos (weight_last whole t u) *ℤ number_in_grid values columns j l)

-- a level is the sum of the four numbers around it, each times its weight, over the square of the centres' distance, rounded down
abbrev pub LevelIsWeighed : Type 0
LevelIsWeighed = (values : List ℤ) (columns rows mesh x y : ℕ) → interpolated values columns rows mesh x y
    ≡ int_div_euclid
    (weighed (2 * mesh) (past_centre mesh x) (past_centre mesh y) values columns (cell_before columns mesh x) (cell_after columns mesh x)
    (cell_before rows mesh y) (cell_after rows mesh y))
    (pos (2 * mesh * (2 * mesh)))

-- and the four weights come to this square
abbrev pub WeightsComeToAll : Type 0
WeightsComeToAll = (mesh x y : ℕ) → 0 < mesh
    → (weight_first (2 * mesh) (past_centre mesh x) (past_centre mesh y) + weight_below (2 * mesh) (past_centre mesh x) (past_centre mesh y))
    + (weight_beside (2 * mesh) (past_centre mesh x) (past_centre mesh y) + weight_last (2 * mesh) (past_centre mesh x) (past_centre mesh y))
    ≡ 2 * mesh * (2 * mesh)

-- where each number of a grid is from low to high, so is each level between them
abbrev pub LevelsStayBetween : Type 0
LevelsStayBetween = (values : List ℤ) (columns rows mesh x y : ℕ) (low high : ℤ) → 0 < columns → 0 < rows → length values ≡ columns * rows → 0 < mesh
    → All (λ v. (low ≤ℤ v) × (v ≤ℤ high)) values
    → (low ≤ℤ interpolated values columns rows mesh x y) × (interpolated values columns rows mesh x y ≤ℤ high)

-- without a mesh the residual is the plane
abbrev pub NoMeshLeavesThePlane : Type 0
NoMeshLeavesThePlane = (empty : Option ℤ) (r : Raster) (flat : Bool) → residual_with empty r 0 flat ≡ r

-- the residual of a plane has one value for each pixel
abbrev pub ResidualIsPlane : Type 0
ResidualIsPlane = (empty : Option ℤ) (r : Raster) (mesh : ℕ) (flat : Bool) → IsPlane r → IsPlane (residual_with empty r mesh flat)

-- a number that is given for cells without a defined pixel is within half of the range of pixels
abbrev pub IsNumberInHalfRange : Option ℤ → Raster → Type 0
IsNumberInHalfRange empty r = IfSome empty (λ v. IsWithin (half_bound (length r.values)) v)

-- and values within this range, where those of the plane are within half of it, too
abbrev pub ResidualIsInRange : Type 0
ResidualIsInRange = (empty : Option ℤ) (r : Raster) (mesh : ℕ) (flat : Bool) → HasValuesInHalfRange r.values → IsNumberInHalfRange empty r
    → HasValuesInRange (residual_with empty r mesh flat).values

-- such a number is the lower median of all defined pixels of the image
abbrev pub IsOwnMedian : Option ℤ → Raster → Type 0
IsOwnMedian empty r = IfSome empty (λ v. v ≡ image_value r)

-- to give that is to give none
abbrev pub OwnMedianIsNone : Type 0
OwnMedianIsNone = (empty : Option ℤ) (r : Raster) (mesh : ℕ) (flat : Bool) → IsOwnMedian empty r
    → residual_with empty r mesh flat ≡ residual_of r mesh flat
