-- Model: the law of the flux.
use Rattle.std.specs.Prelude.{◌≡◌, ℕ, ◌<◌, IsTrue, ◌↔◌, pos, ◌≤ℤ◌, length}
use Rattle.comp_tree.specs.declared.shape.Connect.{Connect}
use Rattle.comp_tree.specs.Raster.{Raster, IsPlane, level}
use Rattle.comp_tree.specs.ComponentTree.{parent_in, no_node}
use Rattle.comp_tree.specs.Components.{nodes, is_in_node, tree_of}
use Rattle.comp_tree.specs.Laws.{IsNestedIn}
use Rattle.node_sums.specs.Flux.{flux_of}

-- a node within another has at most its flux
abbrev pub FluxGrowsWithTheComponent : Type 0
FluxGrowsWithTheComponent = (r : Raster) (connect : Connect) (m n : ℕ) → IsPlane r → m < length (nodes r connect) → n < length (nodes r connect)
    → IsNestedIn r connect n m → flux_of r connect n ≤ℤ flux_of r connect m

-- the flux of a node is never negative
abbrev pub FluxIsNeverNegative : Type 0
FluxIsNeverNegative = (r : Raster) (connect : Connect) (n : ℕ) → IsPlane r → n < length (nodes r connect) → pos 0 ≤ℤ flux_of r connect n

-- node n is a root, and all its pixels have one value
abbrev pub IsFlatRoot : Raster → Connect → ℕ → Type 0
IsFlatRoot r connect n = (parent_in (tree_of r connect).rows n ≡ no_node)
    × ((p q : ℕ) → IsTrue (is_in_node r connect n p) → IsTrue (is_in_node r connect n q) → level r p ≡ level r q)

-- and it is 0 exactly at such a root
abbrev pub FluxIsZeroAtFlatRootsAlone : Type 0
FluxIsZeroAtFlatRootsAlone = (r : Raster) (connect : Connect) (n : ℕ) → IsPlane r → n < length (nodes r connect)
    → (flux_of r connect n ≡ pos 0) ↔ IsFlatRoot r connect n
