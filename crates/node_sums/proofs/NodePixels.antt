-- The numbers of a plane's nodes, and how many pixels a node has.
use Rattle.std.proofs.Common.{◌≡◌, ℕ, ◌+◌, ◌<◌, ◌≤◌, length, refl, arith}
use Rattle.lemmas.proofs.Exported.{IsAmong, among-range, among_from_range}
use Rattle.comp_tree.specs.declared.shape.Connect.{Connect}
use Rattle.comp_tree.specs.Raster.{Raster, IsPlane, pixels}
use Rattle.comp_tree.specs.Components.{nodes, is_in_node}
use Rattle.comp_tree.specs.Nesting.{node_numbers, pixels_of}
use Rattle.comp_tree.proofs.Exported.{length-pixels}
use Rattle.node_sums.specs.Sums.{sums_over, sums_of}
use Rattle.node_sums.proofs.Sizes.{length-filter-le}

-- each node's number is among the numbers, and there are no others
pub among_nodes : (r : Raster) (connect : Connect) (n : ℕ) → n < length (nodes r connect) → IsAmong n (node_numbers r connect)
among_nodes r connect n h = among-range 0 (length (nodes r connect)) n (omega arith) (omega arith)

pub node_from_among : (r : Raster) (connect : Connect) (n : ℕ) → IsAmong n (node_numbers r connect) → n < length (nodes r connect)
node_from_among r connect n h = let k : (0 ≤ n) × (n < 0 + length (nodes r connect)) = among_from_range 0 (length (nodes r connect)) n h in omega arith

-- the area in the sums is the number of pixels
pub sums-area : (r : Raster) (connect : Connect) (n : ℕ) → (sums_of r connect n).area ≡ length (pixels_of r connect n)
unfolding sums_of sums_over
sums-area r connect n = refl

-- a node has at most as many pixels as a plane
pub few-pixels_of : (r : Raster) (connect : Connect) (n : ℕ) → IsPlane r → length (pixels_of r connect n) ≤ 2147483647
unfolding pixels_of
few-pixels_of r connect n plane =
    omega (arith, length-filter-le (is_in_node r connect n) (pixels r), length-pixels r, plane, r.shape.within_limits.few_pixels)
