-- The pixels that a window is sure of, as a test, and the residual that it shows of them.
use Rattle.std.proofs.Common.{◌≡◌, ℕ, ◌+◌, ◌-◌, ◌*◌, ◌/◌, ◌%◌, ◌<◌, ◌≤◌, Bool, true, false, ◌&&◌, ◌||◌, ◌==◌, not, length, refl, sym, ◌∙◌, ap, subst}
use Rattle.std.proofs.Common.{arith, ◌⊎◌, inl, inr}
use Rattle.std.specs.Prelude.{IsTrue, nat_le, nat_lt, ℤ, ◌-ℤ◌, Option, Some, None, is_some}
use Rattle.std.specs.Option.{option_map}
use Rattle.std.specs.List.{list_all, list_any, range_with_len}
use Rattle.std.proofs.lemmas.Bool.{and_parts, and_from, or_cases, or_left, or_right, cases_Bool, cases_eq, not-true, not_from_false, le-leb, leb-true}
use Rattle.std.proofs.lemmas.Bool.{lt-ltb, ltb-true, eq-eqb, eqb-true, true≢false}
use Rattle.std.proofs.lemmas.Nat.{div-add-mod', div-mul-add, mod-mul-add, mul-add-lt}
use Rattle.lemmas.proofs.Exported.{IsAmong, IsWitness, among-range, among_from_range, any_from_among, witness_from_any}
use Rattle.comp_tree.specs.declared.shape.Shape.{Shape}
use Rattle.comp_tree.specs.Raster.{Raster, IsPlane, pixels, value_at, is_defined}
use Rattle.comp_tree.specs.Windows.{Window, IsInside, Box, in_whole, is_in_box, seen_through, Shows}
use Rattle.comp_tree.proofs.Exported.{IsAt, all_from, all_gives, among_from_defined}
use Rattle.comp_tree.proofs.Exported.{in_whole-at, in_whole-below, seen-length, seen-shape, seen-value}
use Rattle.mesh_background.specs.Mesh.{cells_along, mesh_cell_of}
use Rattle.mesh_background.specs.Interpolation.{next_cell}
use Rattle.mesh_background.specs.Residuals.{background, residual_with}
use Rattle.mesh_background.specs.Windows.{IsNeeded, IsClearAlong, HasDefinedCells, IsOnMesh, IsClear, ResidualIsSeen, ClearIsToldFromTheWindow}
use Rattle.mesh_background.specs.Laws.{NoMeshLeavesThePlane, ResidualIsPlane}
use Rattle.mesh_background.proofs.Exported.{residual_value}
use Rattle.tile_laws.specs.Clear.{clear_box, IsBoxWithin, IsSureBox}
use Rattle.tile_laws.proofs.Clear.{from_inside, to_inside, clear_along}

-- ---- boxes

-- where a pixel lies in a box
pub record IsPlacedIn (width : ℕ) (box : Box) (p : ℕ) : Type 0 where
  pub left : box.left ≤ p % width
  pub right : p % width < box.right
  pub top : box.top ≤ p / width
  pub bottom : p / width < box.bottom

pub placed_in : (width : ℕ) (box : Box) (p : ℕ) → IsTrue (is_in_box width box p) → IsPlacedIn width box p
unfolding is_in_box
placed_in width box p k = record {
  left = leb-true box.left (p % width) across.0;
  right = ltb-true (p % width) box.right across.1;
  top = leb-true box.top (p / width) along.0;
  bottom = ltb-true (p / width) box.bottom along.1;
}
  where
    both : ((nat_le box.left (p % width) && nat_lt (p % width) box.right) ≡ true) × ((nat_le box.top (p / width) && nat_lt (p / width) box.bottom) ≡ true)
    both = and_parts (nat_le box.left (p % width) && nat_lt (p % width) box.right) (nat_le box.top (p / width) && nat_lt (p / width) box.bottom) k

    across : (nat_le box.left (p % width) ≡ true) × (nat_lt (p % width) box.right ≡ true)
    across = and_parts (nat_le box.left (p % width)) (nat_lt (p % width) box.right) both.0

    along : (nat_le box.top (p / width) ≡ true) × (nat_lt (p / width) box.bottom ≡ true)
    along = and_parts (nat_le box.top (p / width)) (nat_lt (p / width) box.bottom) both.1

pub in_from_placed : (width : ℕ) (box : Box) (p : ℕ) → IsPlacedIn width box p → IsTrue (is_in_box width box p)
unfolding is_in_box
in_from_placed width box p k =
    and_from (nat_le box.left (p % width) && nat_lt (p % width) box.right) (nat_le box.top (p / width) && nat_lt (p / width) box.bottom)
    (and_from (nat_le box.left (p % width)) (nat_lt (p % width) box.right) (le-leb box.left (p % width) k.left) (lt-ltb (p % width) box.right k.right))
    (and_from (nat_le box.top (p / width)) (nat_lt (p / width) box.bottom) (le-leb box.top (p / width) k.top) (lt-ltb (p / width) box.bottom k.bottom))

in_larger : (width : ℕ) (outer inner : Box) (p : ℕ) → IsBoxWithin outer inner → IsTrue (is_in_box width inner p) → IsTrue (is_in_box width outer p)
in_larger width outer inner p i k =
    let e : IsPlacedIn width inner p = placed_in width inner p k in
    in_from_placed width outer p (record {
      left = omega (arith, i.left, e.left);
      right = omega (arith, i.right, e.right);
      top = omega (arith, i.top, e.top);
      bottom = omega (arith, i.bottom, e.bottom);
    })

-- the window's pixel that is pixel p of the image
pub record IsSeenAt (r : Raster) (w : Window) (p : ℕ) : Type 0 where
  pub it : ℕ
  pub below : it < w.shape.width * w.shape.height
  pub place : in_whole r.shape.width w it ≡ p

pub seen_at : (r : Raster) (w : Window) (p : ℕ) → w.left ≤ p % r.shape.width → p % r.shape.width < w.left + w.shape.width → w.top ≤ p / r.shape.width
    → p / r.shape.width < w.top + w.shape.height → IsSeenAt r w p
unfolding in_whole
seen_at r w p a b c d = record {
  it = q;
  below = mul-add-lt (p / r.shape.width - w.top) w.shape.width (p % r.shape.width - w.left) w.shape.height (omega arith) (omega arith);
  place = place;
}
  where
    q : ℕ
    q = (p / r.shape.width - w.top) * w.shape.width + (p % r.shape.width - w.left)

    place : (q / w.shape.width + w.top) * r.shape.width + (q % w.shape.width + w.left) ≡ p
    place =
        let row : q / w.shape.width ≡ p / r.shape.width - w.top =
        div-mul-add (p / r.shape.width - w.top) w.shape.width (p % r.shape.width - w.left) (omega arith) in
        let column : q % w.shape.width ≡ p % r.shape.width - w.left =
        mod-mul-add (p / r.shape.width - w.top) w.shape.width (p % r.shape.width - w.left) (omega arith) in
        let e : q / w.shape.width + w.top ≡ p / r.shape.width = omega (arith, row, c) in
        let f : q % w.shape.width + w.left ≡ p % r.shape.width = omega (arith, column, a) in
        ap (λ (n : ℕ). n * r.shape.width + (q % w.shape.width + w.left)) e ∙ ap (λ (n : ℕ). p / r.shape.width * r.shape.width + n) f
        ∙ div-add-mod' p r.shape.width

clear_seen : (r : Raster) (w : Window) (flat : Bool) (mesh p : ℕ) → IsTrue (is_in_box r.shape.width (clear_box flat mesh r.shape w) p) → IsSeenAt r w p
clear_seen r w flat mesh p k =
    let e : IsPlacedIn r.shape.width (clear_box flat mesh r.shape w) p = placed_in r.shape.width (clear_box flat mesh r.shape w) p k in
    seen_at r w p (from_inside flat mesh w.left (p % r.shape.width) e.left)
    (to_inside flat mesh r.shape.width (w.left + w.shape.width) (p % r.shape.width) e.right)
    (from_inside flat mesh w.top (p / r.shape.width) e.top) (to_inside flat mesh r.shape.height (w.top + w.shape.height) (p / r.shape.width) e.bottom)

-- ---- the cells that a pixel needs have pixels with values: a test

needs : Bool → ℕ → ℕ → ℕ → Bool
needs true mesh x c = x / mesh == c
needs false mesh x c = nat_le (next_cell mesh x) (c + 2) && nat_le c (next_cell mesh x + 1)

needs_from : (flat : Bool) (mesh x c : ℕ) → IsNeeded flat mesh x c → needs flat mesh x c ≡ true
unfolding needs
needs_from true mesh x c e = eq-eqb (x / mesh) c e
needs_from false mesh x c e =
    and_from (nat_le (next_cell mesh x) (c + 2)) (nat_le c (next_cell mesh x + 1)) (le-leb (next_cell mesh x) (c + 2) e.0)
    (le-leb c (next_cell mesh x + 1) e.1)

needs_gives : (flat : Bool) (mesh x c : ℕ) → needs flat mesh x c ≡ true → IsNeeded flat mesh x c
unfolding needs
needs_gives true mesh x c k = eqb-true (x / mesh) c k
needs_gives false mesh x c k =
    let e : (nat_le (next_cell mesh x) (c + 2) ≡ true) × (nat_le c (next_cell mesh x + 1) ≡ true) =
    and_parts (nat_le (next_cell mesh x) (c + 2)) (nat_le c (next_cell mesh x + 1)) k in
    (leb-true (next_cell mesh x) (c + 2) e.0, leb-true c (next_cell mesh x + 1) e.1)

module _ (r : Raster) (mesh : ℕ) where
  abbrev is_of_cell : ℕ → ℕ → ℕ → Bool
  is_of_cell c d a = is_defined r a && (mesh_cell_of mesh r.shape.width a == d * cells_along mesh r.shape.width + c)

  abbrev cell_has : ℕ → ℕ → Bool
  cell_has c d = list_any (is_of_cell c d) (pixels r)

  abbrev HasOne : ℕ → ℕ → Type 0
  HasOne c d = (a : ℕ) × IsTrue (is_defined r a) × (mesh_cell_of mesh r.shape.width a ≡ d * cells_along mesh r.shape.width + c)

  cell_has_from : (c d : ℕ) → HasOne c d → cell_has c d ≡ true
  cell_has_from c d k =
      any_from_among (is_of_cell c d) k.0 (pixels r) (among_from_defined r k.0 k.1)
      (and_from (is_defined r k.0) (mesh_cell_of mesh r.shape.width k.0 == d * cells_along mesh r.shape.width + c) k.1
      (eq-eqb (mesh_cell_of mesh r.shape.width k.0) (d * cells_along mesh r.shape.width + c) k.2))

  cell_has_gives : (c d : ℕ) → cell_has c d ≡ true → HasOne c d
  cell_has_gives c d k =
      let x : IsWitness (is_of_cell c d) (pixels r) = witness_from_any (is_of_cell c d) (pixels r) k in
      let e : (is_defined r x.it ≡ true) × ((mesh_cell_of mesh r.shape.width x.it == d * cells_along mesh r.shape.width + c) ≡ true) =
      and_parts (is_defined r x.it) (mesh_cell_of mesh r.shape.width x.it == d * cells_along mesh r.shape.width + c) x.passes in
      (x.it, e.0, eqb-true (mesh_cell_of mesh r.shape.width x.it) (d * cells_along mesh r.shape.width + c) e.1)

  module _ (flat : Bool) (p : ℕ) where
    abbrev both_needed : ℕ → ℕ → Bool
    both_needed c d = needs flat mesh (p % r.shape.width) c && needs flat mesh (p / r.shape.width) d

    abbrev is_fine : ℕ → ℕ → Bool
    is_fine c d = not (both_needed c d) || cell_has c d

    abbrev column_fine : ℕ → Bool
    column_fine c = list_all (is_fine c) (range_with_len 0 (cells_along mesh r.shape.height))

    abbrev has_cells : Bool
    has_cells = list_all column_fine (range_with_len 0 (cells_along mesh r.shape.width))

    has_cells_gives : has_cells ≡ true → HasDefinedCells r flat mesh p
    has_cells_gives k c d cl dl nc nd = go (or_cases (not (both_needed c d)) (cell_has c d) fine)
      where
        column : column_fine c ≡ true
        column =
            all_gives column_fine (range_with_len 0 (cells_along mesh r.shape.width)) c k
            (among-range 0 (cells_along mesh r.shape.width) c (omega arith) (omega (arith, cl)))

        fine : is_fine c d ≡ true
        fine =
            all_gives (is_fine c) (range_with_len 0 (cells_along mesh r.shape.height)) d column
            (among-range 0 (cells_along mesh r.shape.height) d (omega arith) (omega (arith, dl)))

        needed : both_needed c d ≡ true
        needed =
            and_from (needs flat mesh (p % r.shape.width) c) (needs flat mesh (p / r.shape.width) d) (needs_from flat mesh (p % r.shape.width) c nc)
            (needs_from flat mesh (p / r.shape.width) d nd)

        go : (not (both_needed c d) ≡ true) ⊎ (cell_has c d ≡ true) → HasOne c d
        go (inl e) = absurd (true≢false (sym needed ∙ not-true (both_needed c d) e))
        go (inr e) = cell_has_gives c d e

    has_cells_from : HasDefinedCells r flat mesh p → has_cells ≡ true
    has_cells_from h =
        all_from column_fine (range_with_len 0 (cells_along mesh r.shape.width))
        (λ c m. all_from (is_fine c) (range_with_len 0 (cells_along mesh r.shape.height)) (λ d l. fine c d m l))
      where
        fine : (c d : ℕ) → IsAmong c (range_with_len 0 (cells_along mesh r.shape.width))
            → IsAmong d (range_with_len 0 (cells_along mesh r.shape.height)) → is_fine c d ≡ true
        fine c d m l = go (cases_Bool (both_needed c d))
          where
            cl : c < cells_along mesh r.shape.width
            cl = let e : (0 ≤ c) × (c < 0 + cells_along mesh r.shape.width) = among_from_range 0 (cells_along mesh r.shape.width) c m in omega (arith, e.1)

            dl : d < cells_along mesh r.shape.height
            dl =
                let e : (0 ≤ d) × (d < 0 + cells_along mesh r.shape.height) = among_from_range 0 (cells_along mesh r.shape.height) d l in omega
                (arith, e.1)

            go : (both_needed c d ≡ true) ⊎ (both_needed c d ≡ false) → is_fine c d ≡ true
            go (inr e) = or_left (not (both_needed c d)) (cell_has c d) (not_from_false (both_needed c d) e)
            go (inl e) =
                let n : (needs flat mesh (p % r.shape.width) c ≡ true) × (needs flat mesh (p / r.shape.width) d ≡ true) =
                and_parts (needs flat mesh (p % r.shape.width) c) (needs flat mesh (p / r.shape.width) d) e in
                or_right (not (both_needed c d)) (cell_has c d)
                (cell_has_from c d (h c d cl dl (needs_gives flat mesh (p % r.shape.width) c n.0) (needs_gives flat mesh (p / r.shape.width) d n.1)))

-- the cells that the pixel needs have pixels with values, or a number is given for those that haven't
abbrev has_numbers : Option ℤ → Raster → ℕ → Bool → ℕ → Bool
has_numbers empty r mesh flat p = is_some empty || has_cells r mesh flat p

abbrev HaveNumbers : Option ℤ → Raster → Bool → ℕ → ℕ → Type 0
HaveNumbers empty r flat mesh p = empty ≡ None → HasDefinedCells r flat mesh p

has_numbers_gives : (empty : Option ℤ) (r : Raster) (mesh : ℕ) (flat : Bool) (p : ℕ) → has_numbers empty r mesh flat p ≡ true
    → HaveNumbers empty r flat mesh p
has_numbers_gives None r mesh flat p k none = has_cells_gives r mesh flat p k
has_numbers_gives (Some v) r mesh flat p k none = absurd (some_none none)
  where
    some_none : (let o : Option ℤ = Some v in o) ≡ None → ⊥
    some_none e = cc

has_numbers_from : (empty : Option ℤ) (r : Raster) (mesh : ℕ) (flat : Bool) (p : ℕ) → HaveNumbers empty r flat mesh p
    → has_numbers empty r mesh flat p ≡ true
has_numbers_from None r mesh flat p h = has_cells_from r mesh flat p (h refl)
has_numbers_from (Some v) r mesh flat p h = refl

-- ---- the sure pixels

-- pixel p lies in the clear box; and there is no mesh, or the pixel has no value, or the cells that it needs have numbers
pub is_sure : Option ℤ → Raster → Window → Bool → ℕ → ℕ → Bool
is_sure empty r w flat mesh p = is_in_box r.shape.width (clear_box flat mesh r.shape w) p && ((mesh == 0) || (not (is_defined r p) || has_numbers empty r mesh flat p))

record IsSure (empty : Option ℤ) (r : Raster) (w : Window) (flat : Bool) (mesh p : ℕ) : Type 0 where
  pub clear : IsTrue (is_in_box r.shape.width (clear_box flat mesh r.shape w) p)
  pub cells : (mesh ≡ 0) ⊎ ((is_defined r p ≡ false) ⊎ HaveNumbers empty r flat mesh p)

sure_gives : (empty : Option ℤ) (r : Raster) (w : Window) (flat : Bool) (mesh p : ℕ) → IsTrue (is_sure empty r w flat mesh p) → IsSure empty r w flat mesh p
unfolding is_sure
sure_gives empty r w flat mesh p k = record { clear = both.0; cells = on_mesh (or_cases (mesh == 0) (not (is_defined r p) || has_numbers empty r mesh flat p) both.1) }
  where
    both : (is_in_box r.shape.width (clear_box flat mesh r.shape w) p ≡ true) × (((mesh == 0) || (not (is_defined r p) || has_numbers empty r mesh flat p)) ≡ true)
    both = and_parts (is_in_box r.shape.width (clear_box flat mesh r.shape w) p) ((mesh == 0) || (not (is_defined r p) || has_numbers empty r mesh flat p)) k

    at_value : (not (is_defined r p) ≡ true) ⊎ (has_numbers empty r mesh flat p ≡ true) → (is_defined r p ≡ false) ⊎ HaveNumbers empty r flat mesh p
    at_value (inl e) = inl (not-true (is_defined r p) e)
    at_value (inr e) = inr (has_numbers_gives empty r mesh flat p e)

    on_mesh : ((mesh == 0) ≡ true) ⊎ ((not (is_defined r p) || has_numbers empty r mesh flat p) ≡ true)
        → (mesh ≡ 0) ⊎ ((is_defined r p ≡ false) ⊎ HaveNumbers empty r flat mesh p)
    on_mesh (inl e) = inl (eqb-true mesh 0 e)
    on_mesh (inr e) = inr (at_value (or_cases (not (is_defined r p)) (has_numbers empty r mesh flat p) e))

sure_from : (empty : Option ℤ) (r : Raster) (w : Window) (flat : Bool) (mesh p : ℕ) → IsSure empty r w flat mesh p → IsTrue (is_sure empty r w flat mesh p)
unfolding is_sure
sure_from empty r w flat mesh p k =
    and_from (is_in_box r.shape.width (clear_box flat mesh r.shape w) p) ((mesh == 0) || (not (is_defined r p) || has_numbers empty r mesh flat p)) k.clear
    (go k.cells)
  where
    go : (mesh ≡ 0) ⊎ ((is_defined r p ≡ false) ⊎ HaveNumbers empty r flat mesh p)
        → ((mesh == 0) || (not (is_defined r p) || has_numbers empty r mesh flat p)) ≡ true
    go (inl e) = or_left (mesh == 0) (not (is_defined r p) || has_numbers empty r mesh flat p) (eq-eqb mesh 0 e)
    go (inr (inl e)) =
        or_right (mesh == 0) (not (is_defined r p) || has_numbers empty r mesh flat p)
        (or_left (not (is_defined r p)) (has_numbers empty r mesh flat p) (not_from_false (is_defined r p) e))
    go (inr (inr e)) =
        or_right (mesh == 0) (not (is_defined r p) || has_numbers empty r mesh flat p)
        (or_right (not (is_defined r p)) (has_numbers empty r mesh flat p) (has_numbers_from empty r mesh flat p e))

-- ---- what is clear in the window

none_from : (o : Option ℤ) → is_some o ≡ false → o ≡ None
none_from None e = refl
none_from (Some v) e = absurd (true≢false e)

-- the laws of the background that are used here
pub record BackgroundLaws : Type 0 where
  pub one_each : ResidualIsPlane
  pub no_mesh : NoMeshLeavesThePlane
  pub seen : ResidualIsSeen
  pub told : ClearIsToldFromTheWindow

module _ (laws : BackgroundLaws) (empty : Option ℤ) (r : Raster) (w : Window) (flat : Bool) (mesh : ℕ) (plane : IsPlane r) (inside : IsInside r.shape w)
    (on : 0 < mesh → IsOnMesh mesh w) where
  -- along both sides of a pixel of the clear box
  module _ (p : ℕ) (k : IsTrue (is_in_box r.shape.width (clear_box flat mesh r.shape w) p)) (some : 0 < mesh) where
    placed : IsPlacedIn r.shape.width (clear_box flat mesh r.shape w) p
    placed = placed_in r.shape.width (clear_box flat mesh r.shape w) p k

    clear_across : IsClearAlong flat mesh w.left w.shape.width r.shape.width (p % r.shape.width)
    clear_across = clear_along mesh w.left w.shape.width r.shape.width (p % r.shape.width) some (on some).columns flat placed.left placed.right

    clear_down : IsClearAlong flat mesh w.top w.shape.height r.shape.height (p / r.shape.width)
    clear_down = clear_along mesh w.top w.shape.height r.shape.height (p / r.shape.width) some (on some).rows flat placed.top placed.bottom

  -- the pixels of a sure box are sure
  pub sure_in_box : (box : Box) (p : ℕ) → IsSureBox empty r w flat mesh box → IsTrue (is_in_box r.shape.width box p) → IsTrue (is_sure empty r w flat mesh p)
  sure_in_box box p b k = sure_from empty r w flat mesh p (record { clear = clear; cells = go (cases_eq mesh 0) (cases_Bool (is_defined r p)) })
    where
      clear : IsTrue (is_in_box r.shape.width (clear_box flat mesh r.shape w) p)
      clear = in_larger r.shape.width (clear_box flat mesh r.shape w) box p b.clear k

      q : IsSeenAt r w p
      q = clear_seen r w flat mesh p clear

      at : IsAt r.shape.width w.shape.width w.left w.top p q.it
      at = subst (λ (x : ℕ). IsAt r.shape.width w.shape.width w.left w.top x q.it) q.place (in_whole-at r.shape w q.it inside)

      value : value_at (seen_through w r).values q.it ≡ value_at r.values p
      value = seen-value w r q.it q.below ∙ ap (value_at r.values) q.place

      told : 0 < mesh → is_defined r p ≡ true → IsClear empty r w flat mesh (in_whole r.shape.width w q.it)
      told some d =
          laws.told empty r w flat mesh q.it plane inside some (on some)
          (subst (λ (n : ℕ). IsClearAlong flat mesh w.left w.shape.width r.shape.width n) at.column (clear_across p clear some))
          (subst (λ (n : ℕ). IsClearAlong flat mesh w.top w.shape.height r.shape.height n) at.row (clear_down p clear some))
          (λ none. b.defined none q.it some (subst (λ (n : ℕ). IsTrue (is_in_box r.shape.width box n)) (sym q.place) k) (ap (λ (o : Option ℤ). is_some o) value ∙ d))

      go : (mesh ≡ 0) ⊎ (mesh ≡ 0 → ⊥) → (is_defined r p ≡ true) ⊎ (is_defined r p ≡ false)
          → (mesh ≡ 0) ⊎ ((is_defined r p ≡ false) ⊎ HaveNumbers empty r flat mesh p)
      go (inl e) d = inl e
      go (inr n) (inr d) = inr (inl d)
      go (inr n) (inl d) = inr (inr (subst (λ (x : ℕ). HaveNumbers empty r flat mesh x) q.place (told (omega arith) d).defined))

  seen_plane : IsPlane (seen_through w r)
  seen_plane = seen-length w r ∙ sym (ap (λ (x : Shape). x.width * x.height) (seen-shape w r))

  residual_none : (x : Raster) (p : ℕ) → p < length x.values → is_defined x p ≡ false → value_at (residual_with empty x mesh flat).values p ≡ None
  residual_none x p l d =
      residual_value empty x mesh flat p l ∙ ap (λ (o : Option ℤ). option_map (λ v. v -ℤ background empty x mesh flat p) o) (none_from (value_at x.values p) d)

  module _ (p : ℕ) (k : IsTrue (is_sure empty r w flat mesh p)) where
    sure : IsSure empty r w flat mesh p
    sure = sure_gives empty r w flat mesh p k

    seen : IsSeenAt r w p
    seen = clear_seen r w flat mesh p sure.clear

    seen_value : value_at (seen_through w r).values seen.it ≡ value_at r.values p
    seen_value = seen-value w r seen.it seen.below ∙ ap (value_at r.values) seen.place

    below_there : seen.it < length (seen_through w r).values
    below_there = subst (λ (n : ℕ). seen.it < n) (sym (seen-length w r)) seen.below

    below_here : p < length r.values
    below_here =
        let e : length r.values ≡ r.shape.width * r.shape.height = plane in
        let l : in_whole r.shape.width w seen.it < r.shape.width * r.shape.height = in_whole-below r.shape w seen.it inside seen.below in
        omega (arith, seen.place)

    -- so the residual is the same
    same_residual : value_at (residual_with empty r mesh flat).values p ≡ value_at (residual_with empty (seen_through w r) mesh flat).values seen.it
    same_residual = go (cases_eq mesh 0) sure.cells
      where
        without : mesh ≡ 0 → value_at (residual_with empty r mesh flat).values p ≡ value_at (residual_with empty (seen_through w r) mesh flat).values seen.it
        without e =
            ap (λ (m : ℕ). value_at (residual_with empty r m flat).values p) e
            ∙ ap (λ (x : Raster). value_at x.values p) (laws.no_mesh empty r flat)
            ∙ sym seen_value
            ∙ sym (ap (λ (x : Raster). value_at x.values seen.it) (laws.no_mesh empty (seen_through w r) flat))
            ∙ sym (ap (λ (m : ℕ). value_at (residual_with empty (seen_through w r) m flat).values seen.it) e)

        go : (mesh ≡ 0) ⊎ (mesh ≡ 0 → ⊥) → (mesh ≡ 0) ⊎ ((is_defined r p ≡ false) ⊎ HaveNumbers empty r flat mesh p)
            → value_at (residual_with empty r mesh flat).values p ≡ value_at (residual_with empty (seen_through w r) mesh flat).values seen.it
        go (inl e) c = without e
        go (inr n) (inl e) = without e
        go (inr n) (inr (inl d)) =
            residual_none r p below_here d
            ∙ sym (residual_none (seen_through w r) seen.it below_there (ap (λ (o : Option ℤ). is_some o) seen_value ∙ d))
        go (inr n) (inr (inr c)) =
            let some : 0 < mesh = omega arith in
            ap (value_at (residual_with empty r mesh flat).values) (sym seen.place)
            ∙ sym (laws.seen empty r w flat mesh seen.it plane inside some (on some) seen.below
            (subst (λ (x : ℕ). IsClear empty r w flat mesh x) (sym seen.place)
            (record { across = clear_across p sure.clear some; along = clear_down p sure.clear some; defined = c })))

  pub shows_sure : Shows (residual_with empty r mesh flat) (residual_with empty (seen_through w r) mesh flat) w (is_sure empty r w flat mesh)
  unfolding residual_with
  shows_sure = record {
    shape_is = seen-shape w r;
    inside = inside;
    shown = λ p l k. record {
      it = (seen p k).it;
      below = subst (λ (n : ℕ). (seen p k).it < n) (sym (laws.one_each empty (seen_through w r) mesh flat seen_plane ∙ ap
          (λ (x : Shape). x.width * x.height) (seen-shape w r))) (seen p k).below;
      place = (seen p k).place;
      same = same_residual p k;
    };
  }

  pub seen_residual_plane : IsPlane (residual_with empty (seen_through w r) mesh flat)
  seen_residual_plane = laws.one_each empty (seen_through w r) mesh flat seen_plane
