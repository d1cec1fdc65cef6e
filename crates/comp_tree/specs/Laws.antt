-- Model: the laws of the component tree of a plane r. Its nodes are numbered, and the component of node n is the set of the
-- pixels q with `IsIn r connect n q`.
use Rattle.std.specs.Prelude.{◌≡◌, ℕ, ◌+◌, ◌<◌, ◌≤◌, IsTrue, IsFalse, ◌↔◌, ◌⊎◌, ℤ, List, length, Option, slice_index}
use Rattle.comp_tree.specs.declared.shape.Connect.{Connect}
use Rattle.comp_tree.specs.declared.tree.NodeRow.{NodeRow}
pub use Rattle.comp_tree.specs.ComponentTree.{parent_in}
use Rattle.comp_tree.specs.Raster.{Raster, IsPlane, is_at_least, level, is_defined}
use Rattle.comp_tree.specs.Components.{IsReached, no_node, reaches, nodes, node_of, is_candidate, is_in_node, tree_of, representative}
use Rattle.comp_tree.specs.Nesting.{lies_within}
use Rattle.comp_tree.specs.Forest.{IsHigh, IsForest, WayEndsAt, StandsForAll}

-- n is the number of a node
abbrev pub IsNode : Raster → Connect → ℕ → Type 0
IsNode r connect n = n < length (nodes r connect)

-- the pixel that represents node n
abbrev pub top_of : Raster → Connect → ℕ → ℕ
top_of r connect n = slice_index (nodes r connect) n

-- q belongs to the component of node n: it is reached from the pixel that represents n, at the level of this pixel
abbrev pub IsIn : Raster → Connect → ℕ → ℕ → Type 0
IsIn r connect n q = IsTrue (is_in_node r connect n q)

-- the parent of node n, in the tree's rows
abbrev pub parent_of_node : Raster → Connect → ℕ → ℕ
parent_of_node r connect n = parent_in (tree_of r connect).rows n

-- ---- reach

-- the test for a path is right: it passes exactly where there is one
abbrev pub ReachIsByPaths : Type 0
ReachIsByPaths = (r : Raster) (connect : Connect) (h : ℤ) (p q : ℕ)
    → IsTrue (reaches r connect h p q) ↔ IsReached r connect h p q

-- ---- the nodes are the connected components of all threshold sets

-- what a pixel reaches at a level that it has at least is the component of a node
abbrev pub EachComponentIsANode : Type 0
EachComponentIsANode = (r : Raster) (connect : Connect) (h : ℤ) (p : ℕ) → IsTrue (is_at_least r h p)
    → (n : ℕ) × IsNode r connect n × ((q : ℕ) → IsReached r connect h p q ↔ IsIn r connect n q)

-- the component of a node is what the pixel that represents it reaches at its own level
abbrev pub EachNodeIsAComponent : Type 0
EachNodeIsAComponent = (r : Raster) (connect : Connect) (n : ℕ) → IsNode r connect n
    → IsTrue (is_at_least r (level r (top_of r connect n)) (top_of r connect n))
    × ((q : ℕ) → IsIn r connect n q ↔ IsReached r connect (level r (top_of r connect n)) (top_of r connect n) q)

-- no two nodes have the same component
abbrev pub NodesAreDistinct : Type 0
NodesAreDistinct = (r : Raster) (connect : Connect) (m n : ℕ) → IsNode r connect m → IsNode r connect n
    → ((q : ℕ) → IsIn r connect m q ↔ IsIn r connect n q) → m ≡ n

-- ---- how components lie in each other

-- the component of n lies within that of m
abbrev pub IsNestedIn : Raster → Connect → ℕ → ℕ → Type 0
IsNestedIn r connect n m = (q : ℕ) → IsIn r connect n q → IsIn r connect m q

-- the test whether it does passes exactly where it does
abbrev pub LiesWithinIsInclusion : Type 0
LiesWithinIsInclusion = (r : Raster) (connect : Connect) (n m : ℕ) → IsTrue (lies_within r connect n m) ↔ IsNestedIn r connect n m

-- the component of n lies within that of m, which has a pixel more
abbrev pub LiesStrictlyWithin : Raster → Connect → ℕ → ℕ → Type 0
LiesStrictlyWithin r connect n m =
    IsNestedIn r connect n m × ((q : ℕ) × IsIn r connect m q × IsFalse (is_in_node r connect n q))

-- no pixel belongs to both
abbrev pub AreDisjoint : Raster → Connect → ℕ → ℕ → Type 0
AreDisjoint r connect n m = (q : ℕ) → IsIn r connect n q → IsIn r connect m q → ⊥

-- two components of nodes are nested or disjoint
abbrev pub NodesAreNestedOrDisjoint : Type 0
NodesAreNestedOrDisjoint = (r : Raster) (connect : Connect) (m n : ℕ) → IsNode r connect m → IsNode r connect n
    → IsNestedIn r connect m n ⊎ (IsNestedIn r connect n m ⊎ AreDisjoint r connect m n)

-- node m is met on the way from the parent of n upwards
pub data IsAncestor (rows : List NodeRow) (m : ℕ) : ℕ → Type 0 where
  parent : (n : ℕ) → parent_in rows n ≡ m → m < length rows → IsAncestor rows m n
  above : (k n : ℕ) → parent_in rows n ≡ k → k < length rows → IsAncestor rows m k → IsAncestor rows m n

-- the nodes met on the way upwards are exactly those with a strictly larger component around it
abbrev pub AncestorsAreTheLargerNodes : Type 0
AncestorsAreTheLargerNodes = (r : Raster) (connect : Connect) (m n : ℕ)
    → IsPlane r → IsNode r connect m → IsNode r connect n
    → LiesStrictlyWithin r connect n m ↔ IsAncestor (tree_of r connect).rows m n

-- the component of a node's parent is the smallest of the strictly larger ones: it lies within each of these
abbrev pub ParentIsTheSmallestLargerNode : Type 0
ParentIsTheSmallestLargerNode = (r : Raster) (connect : Connect) (k n : ℕ)
    → IsPlane r → IsNode r connect k → IsNode r connect n → parent_of_node r connect n ≡ k
    → LiesStrictlyWithin r connect n k
    × ((m : ℕ) → IsNode r connect m → LiesStrictlyWithin r connect n m → IsNestedIn r connect k m)

-- and around the component of a root there is no strictly larger one
abbrev pub RootsHaveNoLargerNode : Type 0
RootsHaveNoLargerNode = (r : Raster) (connect : Connect) (m n : ℕ)
    → IsPlane r → IsNode r connect m → IsNode r connect n → parent_of_node r connect n ≡ no_node
    → LiesStrictlyWithin r connect n m → ⊥

-- candidates of one value for the same parent have one node, so a parent can be read from any of the greatest
abbrev pub CandidatesOfOneLevelHaveOneNode : Type 0
CandidatesOfOneLevelHaveOneNode = (r : Raster) (connect : Connect) (p q s : ℕ)
    → IsTrue (is_candidate r connect p q) → IsTrue (is_candidate r connect p s) → level r q ≡ level r s
    → node_of r connect q ≡ node_of r connect s

-- a defined pixel belongs to its node and to the nodes met on the way upwards from there, and to no others
abbrev pub PixelsBelongToTheirAncestors : Type 0
PixelsBelongToTheirAncestors = (r : Raster) (connect : Connect) (n q : ℕ)
    → IsPlane r → IsNode r connect n → IsTrue (is_defined r q)
    → IsIn r connect n q ↔ ((node_of r connect q ≡ n) ⊎ IsAncestor (tree_of r connect).rows n (node_of r connect q))

-- ---- forests

-- in a forest of links each walk has exactly one last ancestor at each level that its first pixel has at least
abbrev pub EachWalkHasOneLast : Type 0
EachWalkHasOneLast = (values : List (Option ℤ)) (first : ℕ) (links : List ℕ) (h : ℤ) (p : ℕ)
    → first + length links ≤ no_node → IsForest values first links → IsHigh values first (length links) h p
    → (z : ℕ) × WayEndsAt values first links h p z × ((y : ℕ) → WayEndsAt values first links h p y → y ≡ z)

-- where a forest stands for all adjacencies of a plane, p's last ancestor at its own level is its representative
abbrev pub LastAtOwnLevelIsRepresentative : Type 0
LastAtOwnLevelIsRepresentative = (r : Raster) (connect : Connect) (links : List ℕ)
    → IsPlane r → length links ≡ length r.values → IsForest r.values 0 links
    → StandsForAll r connect links
    → (p : ℕ) → IsTrue (is_defined r p) → WayEndsAt r.values 0 links (level r p) p (representative r connect p)
