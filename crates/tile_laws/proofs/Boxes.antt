-- Boxes that are sure with a flat background and without a mesh, and the catalogue of a plane from its windows.
use Rattle.std.proofs.Common.{◌≡◌, ℕ, ◌+◌, ◌*◌, ◌/◌, ◌%◌, ◌<◌, ◌≤◌, Bool, true, false, cond, ◌||◌, ◌==◌, refl, sym, ◌∙◌, ap, subst, arith}
use Rattle.std.specs.Prelude.{ℤ, Option, Some, None, IsTrue}
use Rattle.std.proofs.lemmas.Nat.{div-add-mod', div-mul-add, mod_below}
use Rattle.comp_tree.specs.declared.shape.Connect.{Connect}
use Rattle.comp_tree.specs.Raster.{Raster, is_at_least}
use Rattle.comp_tree.specs.Components.{IsReached}
use Rattle.comp_tree.specs.Windows.{Window, seen_through}
use Rattle.mesh_background.specs.Mesh.{cells_along, mesh_cell_of}
use Rattle.mesh_background.specs.Laws.{NoMeshLeavesThePlane}
use Rattle.mesh_background.specs.Residuals.{residual_of}
use Rattle.source_pick.specs.declared.choice.Choice.{Choice}
use Rattle.mesh_background.proofs.Exported.{own_median}
use Rattle.source_pick.specs.Catalogue.{catalogue}
use Rattle.source_pick.specs.Segmentation.{segmentation}
use Rattle.tile_laws.specs.Clear.{clear_from, clear_to, window_box, IsBoxWithin}
use Rattle.tile_laws.specs.Pieces.{Piece, AnswersForCore, without_mesh, ShowsItsCore}
use Rattle.tile_laws.specs.Laws.{FlatBoxesAreSure, BoxesAreSureWithNumber, BoxesAreSureWithoutMesh, OwnMedianFindsTheSame, NoMeshDetectsInTheImage, PiecesGiveTheCatalogue, PiecesGiveThePlanesCatalogue}

-- ---- flat

-- a pixel's cell in a window on the mesh, as the image counts it
own_cell : (mesh corner x c : ℕ) → 0 < mesh → corner % mesh ≡ 0 → (x + corner) / mesh ≡ c + corner / mesh → x / mesh ≡ c
own_cell mesh corner x c some on e =
    let a : corner / mesh * mesh + corner % mesh ≡ corner = div-add-mod' corner mesh in
    let b : x / mesh * mesh + x % mesh ≡ x = div-add-mod' x mesh in
    let f : (x / mesh + corner / mesh) * mesh + x % mesh ≡ x + corner = omega arith in
    let g : ((x / mesh + corner / mesh) * mesh + x % mesh) / mesh ≡ x / mesh + corner / mesh =
    div-mul-add (x / mesh + corner / mesh) mesh (x % mesh) (mod_below x mesh some) in
    let h : (x + corner) / mesh ≡ x / mesh + corner / mesh = ap (λ (n : ℕ). n / mesh) (sym f) ∙ g in
    omega (arith, e, h)

pub flat_boxes_are_sure : FlatBoxesAreSure
unfolding mesh_cell_of
flat_boxes_are_sure empty r w mesh box on clear = record {
  clear = clear;
  defined = λ none q some inside d i j il jl ni nj. (
    q,
    d,
    let a : q / w.shape.width / mesh ≡ j = own_cell mesh w.top (q / w.shape.width) j some (on some).rows nj in
        let b : q % w.shape.width / mesh ≡ i = own_cell mesh w.left (q % w.shape.width) i some (on some).columns ni in
        ap (λ (n : ℕ). n * cells_along mesh w.shape.width + q % w.shape.width / mesh) a ∙ ap (λ (n : ℕ). j * cells_along mesh w.shape.width + n) b,
  );
}

-- ---- with a number for cells without a value

pub boxes_are_sure_with_number : BoxesAreSureWithNumber
boxes_are_sure_with_number number r w flat mesh box clear = record { clear = clear; defined = λ none. absurd (some_none none) }
  where
    some_none : (let o : Option ℤ = Some number in o) ≡ None → ⊥
    some_none e = cc

-- what is found with the image's own median is what is found without a number
pub own_median_finds_the_same : OwnMedianFindsTheSame
own_median_finds_the_same d r own = (
  ap (λ (x : Raster). catalogue x d.connect d.choice) (own_median d.empty r d.mesh d.flat own),
  ap (λ (x : Raster). segmentation x d.connect d.choice) (own_median d.empty r d.mesh d.flat own),
)

-- ---- without a mesh

from_without : (flat : Bool) (corner : ℕ) → clear_from flat 0 corner ≡ corner
unfolding clear_from
from_without flat corner = go (flat || (corner == 0))
  where
    go : (b : Bool) → cond b corner (corner + (3 * 0) / 2) ≡ corner
    go true = refl
    go false = omega arith

to_without : (flat : Bool) (whole end : ℕ) → clear_to flat 0 whole end ≡ end
unfolding clear_to
to_without flat whole end = refl

pub boxes_are_sure_without_mesh : BoxesAreSureWithoutMesh
boxes_are_sure_without_mesh empty r w flat box i = record {
  clear = record {
    left = subst (λ (n : ℕ). n ≤ box.left) (sym (from_without flat w.left)) i.left;
    right = subst (λ (n : ℕ). box.right ≤ n) (sym (to_without flat r.shape.width (w.left + w.shape.width))) i.right;
    top = subst (λ (n : ℕ). n ≤ box.top) (sym (from_without flat w.top)) i.top;
    bottom = subst (λ (n : ℕ). box.bottom ≤ n) (sym (to_without flat r.shape.height (w.top + w.shape.height))) i.bottom;
  };
  defined = λ none q some. absurd (omega arith);
}

box_itself : (w : Window) → IsBoxWithin (window_box w) (window_box w)
box_itself w = record { left = omega arith; right = omega arith; top = omega arith; bottom = omega arith }

pub no_mesh_detects_in_the_image : NoMeshLeavesThePlane → NoMeshDetectsInTheImage
no_mesh_detects_in_the_image none connect choice r = ap (λ (x : Raster). catalogue x connect choice) (none None r true)

answers_without : NoMeshLeavesThePlane → (connect : Connect) (choice : Choice) (r : Raster) (t : Piece) → ShowsItsCore connect choice r t
    → AnswersForCore (without_mesh connect choice) r t
answers_without none connect choice r t k = record {
  inside = k.inside;
  on_mesh = λ some. absurd (omega arith);
  core_sure = λ p own. record {
    box = window_box t.window;
    sure = boxes_are_sure_without_mesh None r t.window true (window_box t.window) (box_itself t.window);
    there = k.core_seen p own;
  };
  components = λ q core high. record {
    box = window_box t.window;
    sure = boxes_are_sure_without_mesh None r t.window true (window_box t.window) (box_itself t.window);
    deep = λ b path. k.components q b core (subst (λ (x : Raster). IsTrue (is_at_least x choice.threshold q)) same high)
        (subst (λ (x : Raster). IsReached x connect choice.threshold q b) same path);
  };
}
  where
    same : residual_of (seen_through t.window r) 0 true ≡ seen_through t.window r
    same = none None (seen_through t.window r) true

pub pieces_give_the_planes_catalogue : NoMeshLeavesThePlane → PiecesGiveTheCatalogue → PiecesGiveThePlanesCatalogue
pieces_give_the_planes_catalogue none law connect choice r pieces rows plane cover shows merged =
    sym (no_mesh_detects_in_the_image none connect choice r)
    ∙ law (without_mesh connect choice) r pieces rows plane cover (λ t c. answers_without none connect choice r t (shows t c)) merged
