-- Model: the background of a plane, and the residual: what is left of a plane without it. A number may be given for the mesh's
-- cells without a defined pixel.
use Rattle.std.specs.Prelude.{ℕ, ◌/◌, ◌%◌, ◌==◌, Bool, cond, ℤ, pos, ◌-ℤ◌, List, map, Option, None}
use Rattle.std.specs.Option.{option_map}
use Rattle.comp_tree.specs.declared.shape.Shape.{Shape}
use Rattle.comp_tree.specs.Raster.{Raster, pixels, value_at}
use Rattle.mesh_background.specs.Mesh.{cells_along, mesh_cell_of, mesh_value, values_of_mesh}
use Rattle.mesh_background.specs.Smoothing.{filtered_mesh}
use Rattle.mesh_background.specs.Interpolation.{interpolated}

-- the filtered numbers of the mesh over a plane
unfoldable pub filtered_values : Option ℤ → Raster → ℕ → List ℤ
filtered_values empty r mesh = filtered_mesh (values_of_mesh empty r mesh) (cells_along mesh r.shape.width) (cells_along mesh r.shape.height)

-- the level at pixel p of an image of this shape, between such numbers of the mesh's cells
unfoldable pub pixel_level : ℕ → Shape → List ℤ → ℕ → ℤ
pixel_level mesh shape values p = interpolated values (cells_along mesh shape.width) (cells_along mesh shape.height) mesh (p % shape.width) (p / shape.width)

-- the background of pixel p, and 0 without a mesh: flat, the number of its cell, or smooth, the level between the filtered numbers
unfoldable pub background : Option ℤ → Raster → ℕ → Bool → ℕ → ℤ
background empty r mesh flat p = cond (mesh == 0) (pos 0)
    (cond flat (mesh_value empty r mesh (mesh_cell_of mesh r.shape.width p)) (pixel_level mesh r.shape (filtered_values empty r mesh) p))

-- the residual of pixel p: its value less its background. An undefined pixel has none
unfoldable pub residual_at : Option ℤ → Raster → ℕ → Bool → ℕ → Option ℤ
residual_at empty r mesh flat p = option_map (λ v. v -ℤ background empty r mesh flat p) (value_at r.values p)

-- the residual of a plane with such a number, and without
unfoldable pub residual_with : Option ℤ → Raster → ℕ → Bool → Raster
residual_with empty r mesh flat = record { shape = r.shape; values = map (residual_at empty r mesh flat) (pixels r) }

abbrev pub residual_of : Raster → ℕ → Bool → Raster
residual_of r mesh flat = residual_with None r mesh flat
