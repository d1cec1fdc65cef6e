-- Model: the areas of the nodes of a component tree, in pixels.
use Rattle.std.specs.Prelude.{ℕ, List, length, map}
use Rattle.comp_tree.specs.declared.shape.Connect.{Connect}
use Rattle.comp_tree.specs.Raster.{Raster}
use Rattle.comp_tree.specs.Nesting.{node_numbers, pixels_of}

-- the area of node n of the plane's tree: how many pixels its component has
abbrev pub area_of : Raster → Connect → ℕ → ℕ
area_of r connect n = length (pixels_of r connect n)

-- the areas of all its nodes, in the order of their numbers
unfoldable pub areas_in : Raster → Connect → List ℕ
areas_in r connect = map (area_of r connect) (node_numbers r connect)
