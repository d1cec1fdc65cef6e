-- A piece answers for the pixels of its core that lie in no open box.
use Rattle.std.proofs.Common.{◌≡◌, ℕ, ◌-◌, ◌<◌, Bool, true, false, not, List, length, refl, sym, ◌∙◌, ap, subst, arith}
use Rattle.std.specs.Prelude.{IsTrue, Contains, ◌↔◌}
use Rattle.lemmas.proofs.Exported.{among-filter, among-map, among-range, contains_from_among}
use Rattle.comp_tree.specs.declared.shape.Shape.{Shape}
use Rattle.comp_tree.specs.Raster.{Raster, IsPlane, is_at_least}
use Rattle.comp_tree.specs.Components.{IsReached, nodes, tree_of}
use Rattle.comp_tree.specs.Laws.{IsNode, IsIn}
use Rattle.comp_tree.specs.Nesting.{node_numbers}
use Rattle.comp_tree.specs.Windows.{Box, IsInside, in_whole, is_in_box, seen_through, IsDeepIn}
use Rattle.comp_tree.proofs.Exported.{each_component_is_a_node, reaches-is_IsReached, reaches_here, seen-shape}
use Rattle.mesh_background.specs.Windows.{IsOnMesh}
use Rattle.mesh_background.proofs.Exported.{residual_shape}
use Rattle.node_sums.specs.Sums.{sums_of}
use Rattle.node_sums.specs.Outlines.{outline_of, outlines_in}
use Rattle.tile_laws.specs.declared.extents.Extent.{Extent}
use Rattle.tile_laws.specs.Clear.{IsBoxWithin}
use Rattle.tile_laws.specs.Extents.{box_extent}
use Rattle.tile_laws.specs.Final.{LiesInABox, UnopenedPixelsAreAnswered}
use Rattle.tile_laws.specs.Knowing.{HasBoxIn, node_box}
use Rattle.tile_laws.specs.Opening.{IsBoxOf, is_whole_node, is_box_settled, open_extents}
use Rattle.tile_laws.specs.Pieces.{DetectionChoice, Piece, searched}
use Rattle.tile_laws.proofs.Local.{whole_numbers, box_at, is_loose, by_numbers}
use Rattle.tile_laws.proofs.NodeBoxes.{box_in, in_box, meets, there, whole_at}
use Rattle.tile_laws.proofs.Sure.{BackgroundLaws, IsPlacedIn, placed_in, in_from_placed, seen_residual_plane}
use Rattle.tile_laws.proofs.Testing.{whole_test_is_exact, settled_test_is_exact}

in_wider : (width : ℕ) (outer inner : Box) (p : ℕ) → IsBoxWithin outer inner → IsTrue (is_in_box width inner p) → IsTrue (is_in_box width outer p)
in_wider width outer inner p within k =
    let e : IsPlacedIn width inner p = placed_in width inner p k in
    in_from_placed width outer p (record {
      left = omega (arith, within.left, e.left);
      right = omega (arith, within.right, e.right);
      top = omega (arith, within.top, e.top);
      bottom = omega (arith, within.bottom, e.bottom);
    })

module _ (laws : BackgroundLaws) (d : DetectionChoice) (r : Raster) (t : Piece) (core sure : Box) (plane : IsPlane r) (inside : IsInside r.shape t.window)
    (on_mesh : 0 < d.mesh → IsOnMesh d.mesh t.window) where
  abbrev s : Raster
  s = searched d (seen_through t.window r)

  s_plane : IsPlane s
  s_plane = seen_residual_plane laws d.empty r t.window d.flat d.mesh plane inside on_mesh

  s_shape : s.shape ≡ t.window.shape
  s_shape = residual_shape d.empty (seen_through t.window r) d.mesh d.flat ∙ seen-shape t.window r

  abbrev box : ℕ → Box
  box n = node_box t.window.left t.window.top (outline_of (sums_of s d.connect n))

  is_box : (n : ℕ) → IsNode s d.connect n → IsBoxOf r.shape (box n)
  is_box n node =
      let e : HasBoxIn t.window.shape (outline_of (sums_of s d.connect n)) =
      subst (λ (x : Shape). HasBoxIn x (outline_of (sums_of s d.connect n))) s_shape (box_in s d.connect n s_plane node) in
      record {
        columns = omega (arith, e.left, e.columns);
        right = omega (arith, e.right, inside.columns);
        rows = omega (arith, e.top, e.rows);
        bottom = omega (arith, e.bottom, inside.rows);
      }

  -- a whole component whose box isn't settled is told
  told : (n : ℕ) → IsNode s d.connect n → IsTrue (is_whole_node d.choice.threshold (tree_of s d.connect).rows n)
      → is_box_settled r.shape core sure (box n) ≡ false
      → Contains (open_extents d.choice.threshold (tree_of s d.connect).rows (outlines_in s d.connect) t.window.left t.window.top r.shape core sure)
      (box_extent (box n))
  told n node is_whole loose =
      subst (λ (es : List Extent). Contains es (box_extent (box n)))
      (sym (by_numbers s d.connect d.choice.threshold t.window.left t.window.top r.shape core sure))
      (contains_from_among (box_extent (box n)) _
      (among-map (box_at s d.connect d.choice.threshold t.window.left t.window.top r.shape core sure) n _
      (among-filter (is_loose s d.connect d.choice.threshold t.window.left t.window.top r.shape core sure) n (whole_numbers s d.connect d.choice.threshold)
      (among-filter (is_whole_node d.choice.threshold (tree_of s d.connect).rows) n (node_numbers s d.connect)
      (among-range 0 (length (nodes s d.connect)) n (omega arith) (omega (arith, node))) is_whole)
      (ap not loose))))

  -- so the components of other pixels lie deep in the sure box
  deep : (q b : ℕ) → IsTrue (is_in_box r.shape.width core (in_whole r.shape.width t.window q))
      → (LiesInABox r.shape.width (open_extents d.choice.threshold (tree_of s d.connect).rows (outlines_in s d.connect) t.window.left t.window.top r.shape
      core sure) (in_whole r.shape.width t.window q) → ⊥)
      → IsTrue (is_at_least s d.choice.threshold q) → IsReached s d.connect d.choice.threshold q b
      → IsDeepIn r.shape sure (in_whole r.shape.width t.window b)
  deep q b in_core free high path = go (each_component_is_a_node s d.connect d.choice.threshold q high)
    where
      itself : IsReached s d.connect d.choice.threshold q q
      itself = (reaches-is_IsReached s d.connect d.choice.threshold q q).0 (reaches_here s d.connect d.choice.threshold q high)

      go : (n : ℕ) × IsNode s d.connect n × ((x : ℕ) → IsReached s d.connect d.choice.threshold q x ↔ IsIn s d.connect n x)
          → IsDeepIn r.shape sure (in_whole r.shape.width t.window b)
      go (n, node, same) = by (is_box_settled r.shape core sure (box n)) refl
        where
          q_there : IsTrue (is_in_box r.shape.width (box n) (in_whole r.shape.width t.window q))
          q_there = there s r.shape t.window core (outline_of (sums_of s d.connect n)) s_shape inside q (in_box s d.connect n q ((same q).0 itself))

          by : (settled : Bool) → is_box_settled r.shape core sure (box n) ≡ settled → IsDeepIn r.shape sure (in_whole r.shape.width t.window b)
          by true e =
              (settled_test_is_exact r.shape core sure (box n) (is_box n node)).0 e
              (meets s r.shape t.window core (outline_of (sums_of s d.connect n)) s_shape inside q (in_box s d.connect n q ((same q).0 itself)) in_core)
              (in_whole r.shape.width t.window b)
              (there s r.shape t.window core (outline_of (sums_of s d.connect n)) s_shape inside b (in_box s d.connect n b ((same b).0 path)))
          by false e =
              absurd (free (record {
                it = box_extent (box n);
                among = told n node
                    ((whole_test_is_exact d.choice.threshold (tree_of s d.connect).rows n).1 (whole_at s d.connect d.choice.threshold q n high node same)) e;
                there = q_there;
              }))

pub unopened_pixels_are_answered : BackgroundLaws → UnopenedPixelsAreAnswered
unopened_pixels_are_answered laws d r t core sure plane inside on_mesh box_sure within in_core free = record {
  inside = inside;
  on_mesh = on_mesh;
  core_sure = λ p own. record { box = sure; sure = box_sure; there = in_wider r.shape.width sure core p within (in_core p own) };
  components = λ q own high. record {
    box = sure;
    sure = box_sure;
    deep = λ b path. deep laws d r t core sure plane inside on_mesh q b (in_core (in_whole r.shape.width t.window q) own)
        (free (in_whole r.shape.width t.window q) own) high path;
  };
}
