-- What the code reads of a tree and its outlines, and signed numbers as it compares them.
use Rattle.std.proofs.Common.{◌≡◌, ℕ, ◌*◌, ◌<◌, List, length, sym, ◌∙◌, ap, arith, get_or}
use Rattle.std.specs.Prelude.{ℤ, int_le, int_lt, slice_index_or}
use Rattle.std.proofs.lemmas.Int.{to_z-of_z}
use Rattle.std.proofs.lemmas.List.{length-map, get_or-map}
use Rattle.std.proofs.lemmas.List.FromFn.{get_or-map-range_with_len}
use mir.Syntax.{w64, w128}
use mir.Val.{SFits, of_z, to_z}
use lib.Signed.{le_z, lt_z}
use Rattle.comp_tree.specs.declared.shape.Shape.{Shape}
use Rattle.comp_tree.specs.declared.shape.Connect.{Connect}
use Rattle.comp_tree.specs.declared.tree.NodeRow.{NodeRow}
use Rattle.comp_tree.specs.Raster.{Raster, IsPlane}
use Rattle.comp_tree.specs.ComponentTree.{ComponentTree, parent_in}
use Rattle.comp_tree.specs.Components.{nodes, tree_of}
use Rattle.comp_tree.specs.Laws.{parent_of_node}
use Rattle.comp_tree.proofs.Exported.{shape-of}
use Rattle.node_sums.specs.declared.outline.Outline.{Outline}
use Rattle.node_sums.specs.Sums.{sums_of, sums_in}
use Rattle.node_sums.specs.Outlines.{outline_of, outlines_in, AreOutlinesOfTree}
use Rattle.comp_tree.specs.Nesting.{level_in, level_of_node}
use Rattle.node_sums.proofs.Exported.{numbers_for_pixels, row_level, rows_are, node_inside, length-sums_in}

-- ---- the plane

-- r has this tree for this connectivity, and these outlines
pub record HasTreeAndOutlines (r : Raster) (connect : Connect) (tree : ComponentTree) (outlines : List Outline) : Type 0 where
  pub plane : IsPlane r
  pub tree_is : tree ≡ tree_of r connect
  pub outlines_are : outlines ≡ outlines_in r connect

-- a plane that the outlines are of
pub of_trees : (tree : ComponentTree) (outlines : List Outline) → (t : AreOutlinesOfTree tree outlines) → HasTreeAndOutlines t.plane t.of_plane.connect tree outlines
of_trees tree outlines t = record { plane = t.one_each; tree_is = t.of_plane.tree_is; outlines_are = t.of_plane.outlines_are }

pub numbers-length : (r : Raster) (connect : Connect) (tree : ComponentTree) → tree ≡ tree_of r connect → length tree.node_of ≡ length r.values
numbers-length r connect tree e = numbers_for_pixels r tree (connect, e)

pub tree-shape : (r : Raster) (connect : Connect) (tree : ComponentTree) → tree ≡ tree_of r connect → tree.shape ≡ r.shape
tree-shape r connect tree e = ap (λ (t : ComponentTree). t.shape) e ∙ shape-of r connect

-- a well-formed tree is a plane's alone
pub plane_from_tree : (r : Raster) (connect : Connect) (tree : ComponentTree) → tree ≡ tree_of r connect
    → length tree.node_of ≡ tree.shape.width * tree.shape.height → IsPlane r
plane_from_tree r connect tree e w =
    sym (numbers-length r connect tree e) ∙ w ∙ ap (λ (s : Shape). s.width * s.height) (tree-shape r connect tree e)

-- ---- rows

pub level-read : (r : Raster) (connect : Connect) (tree : ComponentTree) (rows : List NodeRow) (n : ℕ) (d : NodeRow) → tree ≡ tree_of r connect
    → rows ≡ tree.rows
    → n < length tree.rows → (slice_index_or rows n d).level ≡ level_of_node r connect n
level-read r connect tree rows n d e f h =
    row_level rows n d (let l : length rows ≡ length tree.rows = ap length f in omega arith)
    ∙ ap (λ (xs : List NodeRow). level_in xs n) f ∙ ap (λ (t : ComponentTree). level_in t.rows n) e

pub parent-read : (r : Raster) (connect : Connect) (tree : ComponentTree) (n p : ℕ) → tree ≡ tree_of r connect → p ≡ parent_in tree.rows n
    → p ≡ parent_of_node r connect n
parent-read r connect tree n p e f = f ∙ ap (λ (t : ComponentTree). parent_in t.rows n) e

-- ---- outlines

pub outlines-length : (r : Raster) (connect : Connect) (tree : ComponentTree) (outlines : List Outline) → HasTreeAndOutlines r connect tree outlines
    → length outlines ≡ length (nodes r connect)
outlines-length r connect tree outlines o =
    ap length o.outlines_are ∙ length-map (sums_in r connect) outline_of ∙ length-sums_in r connect

pub outlines_inside : (r : Raster) (connect : Connect) (tree : ComponentTree) (outlines : List Outline) (n : ℕ) → HasTreeAndOutlines r connect tree outlines
    → n < length tree.rows → n < length outlines
outlines_inside r connect tree outlines n o h =
    let a : length outlines ≡ length (nodes r connect) = outlines-length r connect tree outlines o in
    let b : length tree.rows ≡ length (nodes r connect) = rows_are r connect tree o.tree_is in
    omega arith

pub outline-read : (r : Raster) (connect : Connect) (tree : ComponentTree) (outlines : List Outline) (n : ℕ) (d : Outline)
    → HasTreeAndOutlines r connect tree outlines → n < length tree.rows → slice_index_or outlines n d ≡ outline_of (sums_of r connect n)
unfolding sums_in
outline-read r connect tree outlines n d o h =
    let inside : n < length (nodes r connect) = node_inside r connect tree n o.tree_is h in
    ap (λ (xs : List Outline). get_or xs n d) o.outlines_are
    ∙ get_or-map outline_of (sums_in r connect) n (sums_of r connect n) d (omega (arith, inside, length-sums_in r connect))
    ∙ ap outline_of (get_or-map-range_with_len (sums_of r connect) 0 (length (nodes r connect)) n n (sums_of r connect n) inside (omega arith))

-- ---- signed numbers

pub less-read : (a b c d : ℤ) → SFits w64 a → SFits w64 b → a ≡ c → b ≡ d → lt_z (to_z w64 (of_z w64 a)) (to_z w64 (of_z w64 b)) ≡ int_lt c d
less-read a b c d f g e h = rw (to_z-of_z w64 a f, to_z-of_z w64 b g) (ap (λ (x : ℤ). int_lt x b) e ∙ ap (int_lt c) h)

pub at_most-read : (a b c d : ℤ) → SFits w64 a → SFits w64 b → a ≡ c → b ≡ d → le_z (to_z w64 (of_z w64 a)) (to_z w64 (of_z w64 b)) ≡ int_le c d
at_most-read a b c d f g e h = rw (to_z-of_z w64 a f, to_z-of_z w64 b g) (ap (λ (x : ℤ). int_le x b) e ∙ ap (int_le c) h)

-- what is read from 64 bits is the same in 128
pub wide : (z : ℤ) → SFits w64 z → to_z w128 (of_z w128 (to_z w64 (of_z w64 z))) ≡ z
wide z f = rw (to_z-of_z w64 z f) (to_z-of_z w128 z (record { sfits = omega (arith, f.sfits) }))
