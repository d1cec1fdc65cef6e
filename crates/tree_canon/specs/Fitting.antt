-- Bookkeeping: links that fit the component tree of a plane pixel by pixel. Forests that are given by hand are tried by it.
use Rattle.std.specs.Prelude.{◌≡◌, ℕ, ◌<◌, IsTrue, IsFalse, List}
use Rattle.comp_tree.specs.declared.shape.Connect.{Connect}
use Rattle.comp_tree.specs.Raster.{Raster, is_defined}
use Rattle.comp_tree.specs.Components.{representative, node_of, parent_of}
use Rattle.comp_tree.specs.Forest.{no_node, link_of}

-- the link of p leads to a smaller pixel of the same node, or from the pixel that represents a node to a pixel of the parent
pub data IsFit (r : Raster) (connect : Connect) (links : List ℕ) (p : ℕ) : Type 0 where
  outside : IsFalse (is_defined r p) → link_of 0 links p ≡ no_node → IsFit r connect links p
  root : IsTrue (is_defined r p) → representative r connect p ≡ p → parent_of r connect p ≡ no_node → link_of 0 links p ≡ no_node → IsFit r connect links p
  inside : IsTrue (is_defined r p) → IsTrue (is_defined r (link_of 0 links p)) → node_of r connect (link_of 0 links p) ≡ node_of r connect p
      → link_of 0 links p < p → IsFit r connect links p
  up : IsTrue (is_defined r p) → representative r connect p ≡ p → IsTrue (is_defined r (link_of 0 links p))
      → node_of r connect (link_of 0 links p) ≡ parent_of r connect p → IsFit r connect links p

-- those of the first n pixels fit
abbrev pub AreFit : Raster → Connect → List ℕ → ℕ → Type 0
AreFit r connect links n = (p : ℕ) → p < n → IsFit r connect links p
