-- The background as it is seen through a window whose corner stands on the mesh.
use Rattle.std.proofs.Common.{◌≡◌, ℕ, ◌+◌, ◌-◌, ◌*◌, ◌/◌, ◌%◌, ◌<◌, ◌≤◌, Bool, true, false, cond, ◌&&◌, ◌==◌, List, length, map, refl, sym, ◌∙◌, ap}
use Rattle.std.proofs.Common.{subst, arith, ◌⊎◌, inl, inr}
use Rattle.std.specs.Prelude.{IsTrue, nat_le, filter, ℤ, pos, ◌-ℤ◌, Option, Some, None, unwrap_or, is_some, IsSome, ◌↔◌}
use Rattle.std.specs.Option.{option_map}
use Rattle.std.specs.Int.{int_div_euclid}
use Rattle.std.specs.List.{range_with_len}
use Rattle.std.proofs.lemmas.Bool.{and_parts, and_from, leb-true, le-leb, eqb-true, eq-eqb, ne_eqb, true≢false}
use Rattle.std.proofs.lemmas.Nat.{div-add-mod', div-mul-add, mod-mul-add, mod_below, div_below, mul-add-lt, same_from_place}
use Rattle.std.proofs.lemmas.List.{length-map}
use Rattle.std.proofs.lemmas.List.FromFn.{get_or-map-range_with_len}
use Rattle.lemmas.proofs.Exported.{ArePaired, HasPartnerIn, IsAmong, IsRising, among-filter, among-range, among_from_filter, among_from_range, not_empty}
use Rattle.lemmas.proofs.Exported.{paired_filter, paired_flat_map, paired_from_rising, paired_map, rising-pixels}
use Rattle.comp_tree.specs.declared.shape.Shape.{Shape}
use Rattle.comp_tree.specs.Raster.{Raster, IsPlane, pixels, value_at, is_defined, level}
use Rattle.comp_tree.specs.Windows.{Window, IsInside, in_whole, seen_through}
use Rattle.comp_tree.proofs.Exported.{below_from_defined}
use Rattle.comp_tree.proofs.Exported.{IsAt, at_order, in_whole-at}
use Rattle.comp_tree.proofs.Exported.{in_whole-below, some_columns, seen-length, seen-shape, seen-value}
use Rattle.mesh_background.specs.Medians.{lower_median}
use Rattle.mesh_background.specs.Mesh.{cells_along, cell_count, mesh_cell_of, cell_pixels, defined_values, image_value, mesh_value, values_of_mesh}
use Rattle.mesh_background.specs.Smoothing.{number_in_grid, places_around, numbers_around, filtered_number, filtered_mesh}
use Rattle.mesh_background.specs.Interpolation.{past_centre, cell_before, cell_after, part_way, down_column, interpolated}
use Rattle.mesh_background.specs.Residuals.{filtered_values, pixel_level, background, residual_at, residual_with}
use Rattle.mesh_background.specs.Windows.{IsWholeCell, IsNeeded, IsClearAlong, IsOnMesh, IsClear, BackgroundIsSeen, ResidualIsSeen, ResidualIsShown}
use Rattle.mesh_background.specs.Windows.{ClearIsToldFromTheWindow}
use Rattle.mesh_background.proofs.Extents.{along-above}
use Rattle.mesh_background.proofs.Medians.{some_member}
use Rattle.mesh_background.proofs.Residuals.{is_plane}
use Rattle.mesh_background.proofs.Sides.{IsSide, IsSeenCell, whole_seen, seen_whole, moved_cell, ReadsTheSame, reads_the_same}

-- ---- cells

-- the columns or rows of cell c
cell_bounds : (mesh x c : ℕ) → 0 < mesh → x / mesh ≡ c → (c * mesh ≤ x) × (x < (c + 1) * mesh)
cell_bounds mesh x c some e =
    let whole : x / mesh * mesh + x % mesh ≡ x = div-add-mod' x mesh in
    let rest : x % mesh < mesh = mod_below x mesh some in
    let f : x / mesh * mesh ≡ c * mesh = ap (λ (n : ℕ). n * mesh) e in
    let g : (c + 1) * mesh ≡ c * mesh + mesh = omega arith in
    (omega arith, omega arith)

-- a column or row of a whole cell of the window is one of the window
in_side : (mesh corner side whole x c : ℕ) → 0 < mesh → x < whole → x / mesh ≡ c → IsWholeCell mesh corner side whole c → (corner ≤ x) × (x < corner + side)
in_side mesh corner side whole x c some l e w = (omega (arith, b.0, w.low), go w.high)
  where
    b : (c * mesh ≤ x) × (x < (c + 1) * mesh)
    b = cell_bounds mesh x c some e

    go : ((c + 1) * mesh ≤ corner + side) ⊎ (corner + side ≡ whole) → x < corner + side
    go (inl h) = omega (arith, b.1, h)
    go (inr h) = omega (arith, l, h)

-- the row and the column of cells that a cell stands in
cell_of_is : (mesh width p : ℕ) → mesh_cell_of mesh width p ≡ p / width / mesh * cells_along mesh width + p % width / mesh
unfolding mesh_cell_of
cell_of_is mesh width p = refl

cell_parts : (mesh width p c d : ℕ) → 0 < mesh → 0 < width → c < cells_along mesh width → mesh_cell_of mesh width p ≡ d * cells_along mesh width + c
    → (p / width / mesh ≡ d) × (p % width / mesh ≡ c)
cell_parts mesh width p c d some wide l e =
    same_from_place (p / width / mesh) (p % width / mesh) d c (cells_along mesh width) (along-above mesh width (p % width) some (mod_below p width wide)) l
    (sym (cell_of_is mesh width p) ∙ e)

-- and the other way round
cell_from : (mesh width p c d : ℕ) → p / width / mesh ≡ d → p % width / mesh ≡ c → mesh_cell_of mesh width p ≡ d * cells_along mesh width + c
cell_from mesh width p c d e f =
    cell_of_is mesh width p ∙ ap (λ (n : ℕ). n * cells_along mesh width + p % width / mesh) e ∙ ap (λ (n : ℕ). d * cells_along mesh width + n) f

-- the whole's pixel p is pixel q of the window
record AreOne (r : Raster) (w : Window) (p q : ℕ) : Type 0 where
  pub place : in_whole r.shape.width w q ≡ p
  pub below : q < w.shape.width * w.shape.height

module _ (r : Raster) (w : Window) (mesh : ℕ) (plane : IsPlane r) (inside : IsInside r.shape w) (some : 0 < mesh) (on : IsOnMesh mesh w) where
  -- the window's columns and rows start at cells of the whole
  side_across : IsSide mesh w.left w.shape.width r.shape.width (w.left / mesh)
  side_across = record {
    some = some;
    wide = some_columns w.shape;
    corner_is = let e : w.left / mesh * mesh + w.left % mesh ≡ w.left = div-add-mod' w.left mesh in let f : w.left % mesh ≡ 0 = on.columns in omega arith;
    fits = inside.columns;
  }

  side_along : IsSide mesh w.top w.shape.height r.shape.height (w.top / mesh)
  side_along = record {
    some = some;
    wide = w.shape.within_limits.some_rows;
    corner_is = let e : w.top / mesh * mesh + w.top % mesh ≡ w.top = div-add-mod' w.top mesh in let f : w.top % mesh ≡ 0 = on.rows in omega arith;
    fits = inside.rows;
  }

  -- such pixels have one order, one value and one level
  one_order : (p q a b : ℕ) → AreOne r w p q → AreOne r w a b → (p < a) ↔ (q < b)
  one_order p q a b c d = at_order r.shape.width w.shape.width w.left w.top p q a b (some_columns r.shape) (some_columns w.shape) (at_of p q c) (at_of a b d)
    where
      at_of : (x y : ℕ) → AreOne r w x y → IsAt r.shape.width w.shape.width w.left w.top x y
      at_of x y e = subst (λ (z : ℕ). IsAt r.shape.width w.shape.width w.left w.top z y) e.place (in_whole-at r.shape w y inside)

  one_value : (p q : ℕ) → AreOne r w p q → value_at r.values p ≡ value_at (seen_through w r).values q
  one_value p q c = ap (value_at r.values) (sym c.place) ∙ sym (seen-value w r q c.below)

  one_defined : (p q : ℕ) → AreOne r w p q → is_defined r p ≡ is_defined (seen_through w r) q
  one_defined p q c = ap (λ (v : Option ℤ). is_some v) (one_value p q c)

  one_level : (p q : ℕ) → AreOne r w p q → level r p ≡ level (seen_through w r) q
  unfolding level
  one_level p q c = ap (λ (v : Option ℤ). unwrap_or v (pos 0)) (one_value p q c)

  -- the cell of a window's pixel, as the whole counts it
  whole_cell : (q : ℕ) → (in_whole r.shape.width w q % r.shape.width / mesh ≡ q % w.shape.width / mesh + w.left / mesh)
      × (in_whole r.shape.width w q / r.shape.width / mesh ≡ q / w.shape.width / mesh + w.top / mesh)
  whole_cell q = (
    ap (λ (n : ℕ). n / mesh) (at.column ∙ ap (λ (n : ℕ). q % w.shape.width + n) side_across.corner_is)
        ∙ moved_cell mesh (w.left / mesh) (q % w.shape.width) some,
    ap (λ (n : ℕ). n / mesh) (at.row ∙ ap (λ (n : ℕ). q / w.shape.width + n) side_along.corner_is) ∙ moved_cell mesh (w.top / mesh) (q / w.shape.width) some,
  )
    where
      at : IsAt r.shape.width w.shape.width w.left w.top (in_whole r.shape.width w q) q
      at = in_whole-at r.shape w q inside

  -- a pixel of the whole between the window's sides is one of the window
  find_one : (p : ℕ) → w.left ≤ p % r.shape.width → p % r.shape.width < w.left + w.shape.width → w.top ≤ p / r.shape.width
      → p / r.shape.width < w.top + w.shape.height
      → (q : ℕ) × AreOne r w p q
  unfolding in_whole
  find_one p a b c d = (q, record { place = place; below = few })
    where
      q : ℕ
      q = (p / r.shape.width - w.top) * w.shape.width + (p % r.shape.width - w.left)

      few : q < w.shape.width * w.shape.height
      few = mul-add-lt (p / r.shape.width - w.top) w.shape.width (p % r.shape.width - w.left) w.shape.height (omega arith) (omega arith)

      place : (q / w.shape.width + w.top) * r.shape.width + (q % w.shape.width + w.left) ≡ p
      place =
          let row : q / w.shape.width ≡ p / r.shape.width - w.top =
          div-mul-add (p / r.shape.width - w.top) w.shape.width (p % r.shape.width - w.left) (omega arith) in
          let column : q % w.shape.width ≡ p % r.shape.width - w.left =
          mod-mul-add (p / r.shape.width - w.top) w.shape.width (p % r.shape.width - w.left) (omega arith) in
          let e : q / w.shape.width + w.top ≡ p / r.shape.width = omega (arith, row, c) in
          let f : q % w.shape.width + w.left ≡ p % r.shape.width = omega (arith, column, a) in
          ap (λ (n : ℕ). n * r.shape.width + (q % w.shape.width + w.left)) e ∙ ap (λ (n : ℕ). p / r.shape.width * r.shape.width + n) f
          ∙ div-add-mod' p r.shape.width

  -- ---- the pixels of a cell

  -- the list of them rises, and has exactly the pixels of the cell
  rising-cell : (x : Raster) (k : ℕ) → IsRising (cell_pixels x mesh k)
  unfolding cell_pixels pixels
  rising-cell x k = rising-pixels (λ p. mesh_cell_of mesh x.shape.width p == k) (length x.values)

  among_cell : (x : Raster) (k p : ℕ) → IsAmong p (cell_pixels x mesh k) → (p < length x.values) × (mesh_cell_of mesh x.shape.width p ≡ k)
  unfolding cell_pixels pixels
  among_cell x k p m =
      let g : IsAmong p (range_with_len 0 (length x.values)) × IsTrue (mesh_cell_of mesh x.shape.width p == k) =
      among_from_filter (λ q. mesh_cell_of mesh x.shape.width q == k) p (range_with_len 0 (length x.values)) m in
      let l : (0 ≤ p) × (p < 0 + length x.values) = among_from_range 0 (length x.values) p g.0 in
      (omega (arith, l.1), eqb-true (mesh_cell_of mesh x.shape.width p) k g.1)

  in_cell : (x : Raster) (k p : ℕ) → p < length x.values → mesh_cell_of mesh x.shape.width p ≡ k → IsAmong p (cell_pixels x mesh k)
  unfolding cell_pixels pixels
  in_cell x k p l e =
      among-filter (λ q. mesh_cell_of mesh x.shape.width q == k) p (range_with_len 0 (length x.values))
      (among-range 0 (length x.values) p (omega arith) (omega (arith, l)))
      (eq-eqb (mesh_cell_of mesh x.shape.width p) k e)

  module _ (c d : ℕ) (cl : c < cells_along mesh w.shape.width) (dl : d < cells_along mesh w.shape.height)
      (wc : IsWholeCell mesh w.left w.shape.width r.shape.width (c + w.left / mesh))
      (wd : IsWholeCell mesh w.top w.shape.height r.shape.height (d + w.top / mesh)) where
    -- the number of the cell in the window, and in the whole
    abbrev here_cell : ℕ
    here_cell = d * cells_along mesh w.shape.width + c

    abbrev there_cell : ℕ
    there_cell = (d + w.top / mesh) * cells_along mesh r.shape.width + (c + w.left / mesh)

    -- the whole has such a cell
    there_below : c + w.left / mesh < cells_along mesh r.shape.width
    there_below = seen_whole mesh w.left w.shape.width r.shape.width (w.left / mesh) c side_across cl

    -- each pixel of the cell is one of the window
    cell_there : (p : ℕ) → IsAmong p (cell_pixels r mesh there_cell) → HasPartnerIn (AreOne r w) p (cell_pixels (seen_through w r) mesh here_cell)
    unfolding seen_through
    cell_there p m = record {
      it = q.0;
      among = in_cell (seen_through w r) here_cell q.0 (subst (λ (n : ℕ). q.0 < n) (sym (seen-length w r)) q.1.below) cell;
      pair = q.1;
    }
      where
        g : (p < length r.values) × (mesh_cell_of mesh r.shape.width p ≡ there_cell)
        g = among_cell r there_cell p m

        parts : (p / r.shape.width / mesh ≡ d + w.top / mesh) × (p % r.shape.width / mesh ≡ c + w.left / mesh)
        parts = cell_parts mesh r.shape.width p (c + w.left / mesh) (d + w.top / mesh) some (some_columns r.shape) there_below g.1

        column : (w.left ≤ p % r.shape.width) × (p % r.shape.width < w.left + w.shape.width)
        column = in_side mesh w.left w.shape.width r.shape.width (p % r.shape.width) (c + w.left / mesh) some (mod_below p r.shape.width (some_columns r.shape))
            parts.1 wc

        row : (w.top ≤ p / r.shape.width) × (p / r.shape.width < w.top + w.shape.height)
        row = in_side mesh w.top w.shape.height r.shape.height (p / r.shape.width) (d + w.top / mesh) some
            (div_below p r.shape.width r.shape.height (some_columns r.shape)
            (let e : length r.values ≡ r.shape.width * r.shape.height = plane in omega (arith, g.0))) parts.0 wd

        q : (q : ℕ) × AreOne r w p q
        q = find_one p column.0 column.1 row.0 row.1

        cell : mesh_cell_of mesh w.shape.width q.0 ≡ here_cell
        cell = cell_from mesh w.shape.width q.0 c d
            (let e : in_whole r.shape.width w q.0 / r.shape.width / mesh ≡ q.0 / w.shape.width / mesh + w.top / mesh = (whole_cell q.0).1 in
            let f : in_whole r.shape.width w q.0 / r.shape.width / mesh ≡ p / r.shape.width / mesh = ap (λ (n : ℕ). n / r.shape.width / mesh) q.1.place in
            omega (arith, e, f, parts.0))
            (let e : in_whole r.shape.width w q.0 % r.shape.width / mesh ≡ q.0 % w.shape.width / mesh + w.left / mesh = (whole_cell q.0).0 in
            let f : in_whole r.shape.width w q.0 % r.shape.width / mesh ≡ p % r.shape.width / mesh = ap (λ (n : ℕ). n % r.shape.width / mesh) q.1.place in
            omega (arith, e, f, parts.1))

    -- and the other way round
    cell_back : (q : ℕ) → IsAmong q (cell_pixels (seen_through w r) mesh here_cell) → HasPartnerIn (λ v u. AreOne r w u v) q (cell_pixels r mesh there_cell)
    unfolding seen_through
    cell_back q m = record {
      it = in_whole r.shape.width w q;
      among = in_cell r there_cell (in_whole r.shape.width w q) below cell;
      pair = record { place = refl; below = few };
    }
      where
        g : (q < length (seen_through w r).values) × (mesh_cell_of mesh w.shape.width q ≡ here_cell)
        g = among_cell (seen_through w r) here_cell q m

        few : q < w.shape.width * w.shape.height
        few = subst (λ (n : ℕ). q < n) (seen-length w r) g.0

        below : in_whole r.shape.width w q < length r.values
        below =
            let e : length r.values ≡ r.shape.width * r.shape.height = plane in
            let l : in_whole r.shape.width w q < r.shape.width * r.shape.height = in_whole-below r.shape w q inside few in omega arith

        parts : (q / w.shape.width / mesh ≡ d) × (q % w.shape.width / mesh ≡ c)
        parts = cell_parts mesh w.shape.width q c d some (some_columns w.shape) cl g.1

        cell : mesh_cell_of mesh r.shape.width (in_whole r.shape.width w q) ≡ there_cell
        cell = cell_from mesh r.shape.width (in_whole r.shape.width w q) (c + w.left / mesh) (d + w.top / mesh)
            ((whole_cell q).1 ∙ ap (λ (n : ℕ). n + w.top / mesh) parts.0) ((whole_cell q).0 ∙ ap (λ (n : ℕ). n + w.left / mesh) parts.1)

    -- so the lists of pixels are paired
    cells_paired : ArePaired (AreOne r w) (cell_pixels r mesh there_cell) (cell_pixels (seen_through w r) mesh here_cell)
    cells_paired = paired_from_rising (AreOne r w) (λ p. p) (λ q. q) (cell_pixels r mesh there_cell) (cell_pixels (seen_through w r) mesh here_cell) one_order
        (rising-cell r there_cell) (rising-cell (seen_through w r) here_cell) cell_there cell_back

    -- and those of the defined values are the same
    values_same : defined_values r (cell_pixels r mesh there_cell) ≡ defined_values (seen_through w r) (cell_pixels (seen_through w r) mesh here_cell)
    unfolding defined_values
    values_same = paired_map (AreOne r w) (level r) (level (seen_through w r)) (filter (is_defined r) (cell_pixels r mesh there_cell))
        (filter (is_defined (seen_through w r)) (cell_pixels (seen_through w r) mesh here_cell))
        one_level (paired_filter (AreOne r w) (is_defined r) (is_defined (seen_through w r)) (cell_pixels r mesh there_cell)
        (cell_pixels (seen_through w r) mesh here_cell) one_defined cells_paired)

-- ---- the number of a cell

-- where there is a value, what would stand in for it makes no difference
unwrap_same : (o : Option ℤ) (a b : ℤ) → IsSome o → unwrap_or o a ≡ unwrap_or o b
unwrap_same None a b h = absurd (true≢false (sym h))
unwrap_same (Some v) a b h = refl

-- a defined pixel gives a value
some_values : (r : Raster) (ps : List ℕ) (p : ℕ) → IsAmong p ps → IsTrue (is_defined r p) → 0 < length (defined_values r ps)
unfolding defined_values
some_values r ps p m d =
    subst (λ (n : ℕ). 0 < n) (sym (length-map (filter (is_defined r) ps) (level r)))
    (not_empty (filter (is_defined r) ps) p (among-filter (is_defined r) p ps m d))

module _ (r : Raster) (w : Window) (mesh : ℕ) (plane : IsPlane r) (inside : IsInside r.shape w) (some : 0 < mesh) (on : IsOnMesh mesh w) where
  -- the number of a cell, which has a defined pixel where none is given for the others
  number_same : (empty : Option ℤ) (c d : ℕ) → c < cells_along mesh w.shape.width → d < cells_along mesh w.shape.height
      → IsWholeCell mesh w.left w.shape.width r.shape.width (c + w.left / mesh)
      → IsWholeCell mesh w.top w.shape.height r.shape.height (d + w.top / mesh)
      → (empty ≡ None
      → (a : ℕ) × IsTrue (is_defined r a) × (mesh_cell_of mesh r.shape.width a ≡ (d + w.top / mesh) * cells_along mesh r.shape.width + (c + w.left / mesh)))
      → mesh_value empty (seen_through w r) mesh (d * cells_along mesh w.shape.width + c)
      ≡ mesh_value empty r mesh ((d + w.top / mesh) * cells_along mesh r.shape.width + (c + w.left / mesh))
  unfolding mesh_value
  number_same (Some v) c d cl dl wc wd has =
      ap (λ (xs : List ℤ). unwrap_or (lower_median xs) v) (sym (values_same r w mesh plane inside some on c d cl dl wc wd))
  number_same None c d cl dl wc wd has =
      ap (λ (xs : List ℤ). unwrap_or (lower_median xs) (image_value (seen_through w r))) (sym same)
      ∙ unwrap_same (lower_median (defined_values r (cell_pixels r mesh there))) (image_value (seen_through w r)) (image_value r)
      (some_member (defined_values r (cell_pixels r mesh there)) (some_values r (cell_pixels r mesh there) a.0
      (in_cell r w mesh plane inside some on r there a.0 (below_from_defined r a.0 a.1) a.2) a.1))
    where
      a : (a : ℕ) × IsTrue (is_defined r a) × (mesh_cell_of mesh r.shape.width a ≡ (d + w.top / mesh) * cells_along mesh r.shape.width + (c + w.left / mesh))
      a = has refl

      there : ℕ
      there = (d + w.top / mesh) * cells_along mesh r.shape.width + (c + w.left / mesh)

      same : defined_values r (cell_pixels r mesh there)
          ≡ defined_values (seen_through w r) (cell_pixels (seen_through w r) mesh (d * cells_along mesh w.shape.width + c))
      same = values_same r w mesh plane inside some on c d cl dl wc wd

-- ---- numbers in the grid

-- the number at a place of the grid
grid_is : (empty : Option ℤ) (r : Raster) (mesh i j : ℕ) → i < cells_along mesh r.shape.width → j < cells_along mesh r.shape.height
    → number_in_grid (values_of_mesh empty r mesh) (cells_along mesh r.shape.width) i j ≡ mesh_value empty r mesh (j * cells_along mesh r.shape.width + i)
unfolding values_of_mesh
grid_is empty r mesh i j il jl =
    get_or-map-range_with_len (mesh_value empty r mesh) 0 (cell_count mesh r.shape) (j * cells_along mesh r.shape.width + i) (j * cells_along mesh r.shape.width + i)
    (pos 0)
    (mul-add-lt j (cells_along mesh r.shape.width) i (cells_along mesh r.shape.height) jl il) (omega arith)

-- and its filtered number
filtered_is : (values : List ℤ) (columns rows i j : ℕ) → i < columns → j < rows
    → number_in_grid (filtered_mesh values columns rows) columns i j ≡ unwrap_or (lower_median (numbers_around values columns rows i j)) (pos 0)
unfolding filtered_mesh filtered_number
filtered_is values columns rows i j il jl =
    get_or-map-range_with_len (filtered_number values columns rows) 0 (columns * rows) (j * columns + i) (j * columns + i) (pos 0)
    (mul-add-lt j columns i rows jl il) (omega arith)
    ∙ ap (λ (n : ℕ). unwrap_or (lower_median (numbers_around values columns rows n ((j * columns + i) / columns))) (pos 0)) (mod-mul-add j columns i il)
    ∙ ap (λ (n : ℕ). unwrap_or (lower_median (numbers_around values columns rows i n)) (pos 0)) (div-mul-add j columns i il)

-- cell k of the whole is cell l of the window, and one that pixel x of the window's side needs
record AreOneCell (mesh corner side whole first x k l : ℕ) : Type 0 where
  pub is : k ≡ l + first
  pub below : k < cells_along mesh whole
  pub below_there : l < cells_along mesh side
  pub needed : IsNeeded false mesh (x + corner) k
  pub seen : IsWholeCell mesh corner side whole (l + first)

-- the places around place i
among_around : (n i k : ℕ) → IsAmong k (places_around n i) → (k < n) × (i ≤ k + 1) × (k ≤ i + 1)
unfolding places_around
among_around n i k m =
    let g : IsAmong k (range_with_len 0 n) × IsTrue (nat_le i (k + 1) && nat_le k (i + 1)) =
    among_from_filter (λ j. nat_le i (j + 1) && nat_le j (i + 1)) k (range_with_len 0 n) m in
    let l : (0 ≤ k) × (k < 0 + n) = among_from_range 0 n k g.0 in
    let t : (nat_le i (k + 1) ≡ true) × (nat_le k (i + 1) ≡ true) = and_parts (nat_le i (k + 1)) (nat_le k (i + 1)) g.1 in
    (omega (arith, l.1), leb-true i (k + 1) t.0, leb-true k (i + 1) t.1)

-- and the other way round
in_around : (n i k : ℕ) → k < n → i ≤ k + 1 → k ≤ i + 1 → IsAmong k (places_around n i)
unfolding places_around
in_around n i k l a b =
    among-filter (λ j. nat_le i (j + 1) && nat_le j (i + 1)) k (range_with_len 0 n) (among-range 0 n k (omega arith) (omega (arith, l)))
    (and_from (nat_le i (k + 1)) (nat_le k (i + 1)) (le-leb i (k + 1) a) (le-leb k (i + 1) b))

-- they rise
rising-around : (n i : ℕ) → IsRising (places_around n i)
unfolding places_around
rising-around n i = rising-pixels (λ k. nat_le i (k + 1) && nat_le k (i + 1)) n

module _ (mesh corner side whole first x : ℕ) (side_is : IsSide mesh corner side whole first)
    (clear : IsClearAlong false mesh corner side whole (x + corner)) where
  -- a cell that the pixel needs is one of the window
  one_cell : (k : ℕ) → k < cells_along mesh whole → IsNeeded false mesh (x + corner) k → (l : ℕ) × AreOneCell mesh corner side whole first x k l
  one_cell k l n =
      let g : IsSeenCell mesh side first k = whole_seen mesh corner side whole first k side_is l (clear k l n) in
      let seen : IsWholeCell mesh corner side whole (g.it + first) = subst (λ (c : ℕ). IsWholeCell mesh corner side whole c) g.is (clear k l n) in
      (g.it, record { is = g.is; below = l; below_there = g.below; needed = n; seen = seen })

  -- so the places around a cell are paired with those around the window's
  places_paired : (i j : ℕ) → i ≡ j + first → ((k : ℕ) → k < cells_along mesh whole → i ≤ k + 1 → k ≤ i + 1 → IsNeeded false mesh (x + corner) k)
      → ArePaired (AreOneCell mesh corner side whole first x) (places_around (cells_along mesh whole) i) (places_around (cells_along mesh side) j)
  places_paired i j e beside =
      paired_from_rising (AreOneCell mesh corner side whole first x) (λ k. k) (λ l. l) (places_around (cells_along mesh whole) i)
      (places_around (cells_along mesh side) j) order
      (rising-around (cells_along mesh whole) i) (rising-around (cells_along mesh side) j) there back
    where
      order : (p q a b : ℕ) → AreOneCell mesh corner side whole first x p q → AreOneCell mesh corner side whole first x a b → (p < a) ↔ (q < b)
      order p q a b c d = let u : p ≡ q + first = c.is in let v : a ≡ b + first = d.is in (λ l. omega (arith, u, v, l), λ l. omega (arith, u, v, l))

      there : (k : ℕ) → IsAmong k (places_around (cells_along mesh whole) i)
          → HasPartnerIn (AreOneCell mesh corner side whole first x) k (places_around (cells_along mesh side) j)
      there k m =
          let g : (k < cells_along mesh whole) × (i ≤ k + 1) × (k ≤ i + 1) = among_around (cells_along mesh whole) i k m in
          let c : (l : ℕ) × AreOneCell mesh corner side whole first x k l = one_cell k g.0 (beside k g.0 g.1 g.2) in
          let f : k ≡ c.0 + first = c.1.is in
          record { it = c.0; among = in_around (cells_along mesh side) j c.0 c.1.below_there (omega (arith, e, f, g.1)) (omega (arith, e, f, g.2)); pair = c.1 }

      back : (l : ℕ) → IsAmong l (places_around (cells_along mesh side) j)
          → HasPartnerIn (λ v u. AreOneCell mesh corner side whole first x u v) l (places_around (cells_along mesh whole) i)
      back l m =
          let g : (l < cells_along mesh side) × (j ≤ l + 1) × (l ≤ j + 1) = among_around (cells_along mesh side) j l m in
          let below : l + first < cells_along mesh whole = seen_whole mesh corner side whole first l side_is g.0 in
          let low : i ≤ l + first + 1 = omega (arith, e, g.1) in
          let high : l + first ≤ i + 1 = omega (arith, e, g.2) in
          let n : IsNeeded false mesh (x + corner) (l + first) = beside (l + first) below low high in
          record {
            it = l + first;
            among = in_around (cells_along mesh whole) i (l + first) below low high;
            pair = record { is = refl; below = below; below_there = g.0; needed = n; seen = clear (l + first) below n };
          }

-- ---- levels

-- the same way between the same numbers
way_same : (whole a b : ℕ) (p q u v : ℤ) → a ≡ b → p ≡ u → q ≡ v → part_way whole a p q ≡ part_way whole b u v
way_same whole a b p q u v e f g = ap (λ (n : ℕ). part_way whole n p q) e ∙ ap (λ (z : ℤ). part_way whole b z q) f ∙ ap (λ (z : ℤ). part_way whole b u z) g

module _ (values there : List ℤ) (mesh wide narrow high low left top first_column first_row x y : ℕ)
    (across : ReadsTheSame mesh left narrow wide first_column x) (along : ReadsTheSame mesh top low high first_row y)
    (same : (i j : ℕ) → (i ≡ cell_before (cells_along mesh narrow) mesh x) ⊎ (i ≡ cell_after (cells_along mesh narrow) mesh x)
    → (j ≡ cell_before (cells_along mesh low) mesh y) ⊎ (j ≡ cell_after (cells_along mesh low) mesh y)
    → number_in_grid values (cells_along mesh wide) (i + first_column) (j + first_row) ≡ number_in_grid there (cells_along mesh narrow) i j) where
  -- the level down a column of cells
  down_same : (i : ℕ) → (i ≡ cell_before (cells_along mesh narrow) mesh x) ⊎ (i ≡ cell_after (cells_along mesh narrow) mesh x)
      → down_column values (cells_along mesh wide) (cells_along mesh high) mesh (y + top) (i + first_column)
      ≡ down_column there (cells_along mesh narrow) (cells_along mesh low) mesh y i
  down_same i k = way_same (2 * mesh) (past_centre mesh (y + top)) (past_centre mesh y) _ _ _ _ along.past
      (ap (number_in_grid values (cells_along mesh wide) (i + first_column)) along.before ∙ same i (cell_before (cells_along mesh low) mesh y) k (inl refl))
      (ap (number_in_grid values (cells_along mesh wide) (i + first_column)) along.after ∙ same i (cell_after (cells_along mesh low) mesh y) k (inr refl))

  -- and the level between two columns
  level_same : interpolated values (cells_along mesh wide) (cells_along mesh high) mesh (x + left) (y + top)
      ≡ interpolated there (cells_along mesh narrow) (cells_along mesh low) mesh x y
  unfolding interpolated
  level_same = ap (λ (z : ℤ). int_div_euclid z (pos (2 * mesh * (2 * mesh))))
      (way_same (2 * mesh) (past_centre mesh (x + left)) (past_centre mesh x) _ _ _ _ across.past
      (ap (down_column values (cells_along mesh wide) (cells_along mesh high) mesh (y + top)) across.before
      ∙ down_same (cell_before (cells_along mesh narrow) mesh x) (inl refl))
      (ap (down_column values (cells_along mesh wide) (cells_along mesh high) mesh (y + top)) across.after
      ∙ down_same (cell_after (cells_along mesh narrow) mesh x) (inr refl)))

-- ---- the background

-- with a mesh, the flat background
background_flat : (empty : Option ℤ) (r : Raster) (mesh p : ℕ) → 0 < mesh
    → background empty r mesh true p ≡ mesh_value empty r mesh (p / r.shape.width / mesh * cells_along mesh r.shape.width + p % r.shape.width / mesh)
unfolding background mesh_cell_of
background_flat empty r mesh p l =
    ap (λ (b : Bool). cond b (pos 0) (mesh_value empty r mesh (p / r.shape.width / mesh * cells_along mesh r.shape.width + p % r.shape.width / mesh)))
    (ne_eqb mesh 0 (λ e. absurd (omega (arith, e, l))))

-- and the smooth one
background_smooth : (empty : Option ℤ) (r : Raster) (mesh p : ℕ) → 0 < mesh
    → background empty r mesh false p
    ≡ interpolated (filtered_values empty r mesh) (cells_along mesh r.shape.width) (cells_along mesh r.shape.height) mesh (p % r.shape.width) (p / r.shape.width)
unfolding background pixel_level
background_smooth empty r mesh p l =
    ap (λ (b : Bool). cond b (pos 0)
    (interpolated (filtered_values empty r mesh) (cells_along mesh r.shape.width) (cells_along mesh r.shape.height) mesh (p % r.shape.width) (p / r.shape.width)))
    (ne_eqb mesh 0 (λ e. absurd (omega (arith, e, l))))

filtered_values_is : (empty : Option ℤ) (r : Raster) (mesh : ℕ)
    → filtered_values empty r mesh ≡ filtered_mesh (values_of_mesh empty r mesh) (cells_along mesh r.shape.width) (cells_along mesh r.shape.height)
unfolding filtered_values
filtered_values_is empty r mesh = refl

-- the cells with defined pixels, where no number is given, as the window counts the pixel
abbrev HaveDefined : Option ℤ → Raster → Bool → ℕ → ℕ → ℕ → Type 0
HaveDefined empty r flat mesh x y =
    empty ≡ None → (c d : ℕ) → c < cells_along mesh r.shape.width → d < cells_along mesh r.shape.height → IsNeeded flat mesh x c → IsNeeded flat mesh y d
    → (a : ℕ) × IsTrue (is_defined r a) × (mesh_cell_of mesh r.shape.width a ≡ d * cells_along mesh r.shape.width + c)

module _ (empty : Option ℤ) (r : Raster) (w : Window) (mesh : ℕ) (plane : IsPlane r) (inside : IsInside r.shape w) (some : 0 < mesh) (on : IsOnMesh mesh w)
    (x y : ℕ) (xl : x < w.shape.width) (yl : y < w.shape.height) where
  abbrev first_column : ℕ
  first_column = w.left / mesh

  abbrev first_row : ℕ
  first_row = w.top / mesh

  across_is : IsSide mesh w.left w.shape.width r.shape.width (w.left / mesh)
  across_is = side_across r w mesh plane inside some on

  along_is : IsSide mesh w.top w.shape.height r.shape.height (w.top / mesh)
  along_is = side_along r w mesh plane inside some on

  -- the flat background of the window's pixel in column x of row y
  flat_same : IsClearAlong true mesh w.left w.shape.width r.shape.width (x + w.left) → IsClearAlong true mesh w.top w.shape.height r.shape.height (y + w.top)
      → HaveDefined empty r true mesh (x + w.left) (y + w.top)
      → mesh_value empty (seen_through w r) mesh (y / mesh * cells_along mesh w.shape.width + x / mesh)
      ≡ mesh_value empty r mesh ((y + w.top) / mesh * cells_along mesh r.shape.width + (x + w.left) / mesh)
  flat_same clear_x clear_y defined =
      number_same r w mesh plane inside some on empty (x / mesh) (y / mesh) cl dl
      (subst (λ (c : ℕ). IsWholeCell mesh w.left w.shape.width r.shape.width c) column
      (clear_x ((x + w.left) / mesh) (subst (λ (c : ℕ). c < cells_along mesh r.shape.width) (sym column) there_c) refl))
      (subst (λ (d : ℕ). IsWholeCell mesh w.top w.shape.height r.shape.height d) row
      (clear_y ((y + w.top) / mesh) (subst (λ (d : ℕ). d < cells_along mesh r.shape.height) (sym row) there_d) refl))
      (λ none. defined none (x / mesh + w.left / mesh) (y / mesh + w.top / mesh) there_c there_d column row)
      ∙ ap (λ (n : ℕ). mesh_value empty r mesh (n * cells_along mesh r.shape.width + (x / mesh + w.left / mesh))) (sym row)
      ∙ ap (λ (n : ℕ). mesh_value empty r mesh ((y + w.top) / mesh * cells_along mesh r.shape.width + n)) (sym column)
    where
      cl : x / mesh < cells_along mesh w.shape.width
      cl = along-above mesh w.shape.width x some xl

      dl : y / mesh < cells_along mesh w.shape.height
      dl = along-above mesh w.shape.height y some yl

      column : (x + w.left) / mesh ≡ x / mesh + w.left / mesh
      column = ap (λ (n : ℕ). (x + n) / mesh) across_is.corner_is ∙ moved_cell mesh (w.left / mesh) x some

      row : (y + w.top) / mesh ≡ y / mesh + w.top / mesh
      row = ap (λ (n : ℕ). (y + n) / mesh) along_is.corner_is ∙ moved_cell mesh (w.top / mesh) y some

      there_c : x / mesh + w.left / mesh < cells_along mesh r.shape.width
      there_c = seen_whole mesh w.left w.shape.width r.shape.width (w.left / mesh) (x / mesh) across_is cl

      there_d : y / mesh + w.top / mesh < cells_along mesh r.shape.height
      there_d = seen_whole mesh w.top w.shape.height r.shape.height (w.top / mesh) (y / mesh) along_is dl

  module _ (clear_x : IsClearAlong false mesh w.left w.shape.width r.shape.width (x + w.left))
      (clear_y : IsClearAlong false mesh w.top w.shape.height r.shape.height (y + w.top))
      (defined : HaveDefined empty r false mesh (x + w.left) (y + w.top)) where
    -- the numbers that a smooth background needs
    grid_same : (k l i j : ℕ) → AreOneCell mesh w.left w.shape.width r.shape.width (w.left / mesh) x k i
        → AreOneCell mesh w.top w.shape.height r.shape.height (w.top / mesh) y l j
        → number_in_grid (values_of_mesh empty r mesh) (cells_along mesh r.shape.width) k l
        ≡ number_in_grid (values_of_mesh empty (seen_through w r) mesh) (cells_along mesh w.shape.width) i j
    unfolding seen_through
    grid_same k l i j c d =
        grid_is empty r mesh k l c.below d.below
        ∙ ap (λ (n : ℕ). mesh_value empty r mesh (l * cells_along mesh r.shape.width + n)) c.is
        ∙ ap (λ (n : ℕ). mesh_value empty r mesh (n * cells_along mesh r.shape.width + (i + w.left / mesh))) d.is
        ∙ sym (number_same r w mesh plane inside some on empty i j c.below_there d.below_there c.seen d.seen has)
        ∙ sym (grid_is empty (seen_through w r) mesh i j c.below_there d.below_there)
      where
        has : empty ≡ None → (a : ℕ) × IsTrue (is_defined r a)
            × (mesh_cell_of mesh r.shape.width a ≡ (j + w.top / mesh) * cells_along mesh r.shape.width + (i + w.left / mesh))
        has none = defined none (i + w.left / mesh) (j + w.top / mesh) (subst (λ (n : ℕ). n < cells_along mesh r.shape.width) c.is c.below)
            (subst (λ (n : ℕ). n < cells_along mesh r.shape.height) d.is d.below)
            (subst (λ (n : ℕ). IsNeeded false mesh (x + w.left) n) c.is c.needed) (subst (λ (n : ℕ). IsNeeded false mesh (y + w.top) n) d.is d.needed)

    -- the lists of them around a cell
    around_same : (i j : ℕ)
        → ((k : ℕ) → k < cells_along mesh r.shape.width → i + w.left / mesh ≤ k + 1 → k ≤ i + w.left / mesh + 1 → IsNeeded false mesh (x + w.left) k)
        → ((l : ℕ) → l < cells_along mesh r.shape.height → j + w.top / mesh ≤ l + 1 → l ≤ j + w.top / mesh + 1 → IsNeeded false mesh (y + w.top) l)
        → numbers_around (values_of_mesh empty r mesh) (cells_along mesh r.shape.width) (cells_along mesh r.shape.height) (i + w.left / mesh) (j + w.top / mesh)
        ≡ numbers_around (values_of_mesh empty (seen_through w r) mesh) (cells_along mesh w.shape.width) (cells_along mesh w.shape.height) i j
    unfolding numbers_around
    around_same i j beside_x beside_y =
        paired_flat_map (AreOneCell mesh w.top w.shape.height r.shape.height (w.top / mesh) y)
        (λ l. map (λ k. number_in_grid (values_of_mesh empty r mesh) (cells_along mesh r.shape.width) k l)
        (places_around (cells_along mesh r.shape.width) (i + w.left / mesh)))
        (λ l. map (λ k. number_in_grid (values_of_mesh empty (seen_through w r) mesh) (cells_along mesh w.shape.width) k l)
        (places_around (cells_along mesh w.shape.width) i))
        (places_around (cells_along mesh r.shape.height) (j + w.top / mesh)) (places_around (cells_along mesh w.shape.height) j)
        (λ l m d. paired_map (AreOneCell mesh w.left w.shape.width r.shape.width (w.left / mesh) x)
        (λ k. number_in_grid (values_of_mesh empty r mesh) (cells_along mesh r.shape.width) k l)
        (λ k. number_in_grid (values_of_mesh empty (seen_through w r) mesh) (cells_along mesh w.shape.width) k m)
        (places_around (cells_along mesh r.shape.width) (i + w.left / mesh)) (places_around (cells_along mesh w.shape.width) i) (λ k h c. grid_same k l h m c d)
        (places_paired mesh w.left w.shape.width r.shape.width (w.left / mesh) x across_is clear_x (i + w.left / mesh) i refl beside_x))
        (places_paired mesh w.top w.shape.height r.shape.height (w.top / mesh) y along_is clear_y (j + w.top / mesh) j refl beside_y)

    -- what the interpolation reads along the two sides
    across_same : ReadsTheSame mesh w.left w.shape.width r.shape.width (w.left / mesh) x
    across_same = reads_the_same mesh w.left w.shape.width r.shape.width (w.left / mesh) x across_is xl clear_x

    along_same : ReadsTheSame mesh w.top w.shape.height r.shape.height (w.top / mesh) y
    along_same = reads_the_same mesh w.top w.shape.height r.shape.height (w.top / mesh) y along_is yl clear_y

    -- the filtered numbers that it reads
    filtered_same : (i j : ℕ) → (i ≡ cell_before (cells_along mesh w.shape.width) mesh x) ⊎ (i ≡ cell_after (cells_along mesh w.shape.width) mesh x)
        → (j ≡ cell_before (cells_along mesh w.shape.height) mesh y) ⊎ (j ≡ cell_after (cells_along mesh w.shape.height) mesh y)
        → number_in_grid (filtered_values empty r mesh) (cells_along mesh r.shape.width) (i + w.left / mesh) (j + w.top / mesh)
        ≡ number_in_grid (filtered_values empty (seen_through w r) mesh) (cells_along mesh w.shape.width) i j
    unfolding seen_through
    filtered_same i j u v =
        ap (λ (xs : List ℤ). number_in_grid xs (cells_along mesh r.shape.width) (i + w.left / mesh) (j + w.top / mesh)) (filtered_values_is empty r mesh)
        ∙ filtered_is (values_of_mesh empty r mesh) (cells_along mesh r.shape.width) (cells_along mesh r.shape.height) (i + w.left / mesh) (j + w.top / mesh)
        (seen_whole mesh w.left w.shape.width r.shape.width (w.left / mesh) i across_is (i_below u))
        (seen_whole mesh w.top w.shape.height r.shape.height (w.top / mesh) j along_is (j_below v))
        ∙ ap (λ (xs : List ℤ). unwrap_or (lower_median xs) (pos 0)) (around_same i j (beside_i u) (beside_j v))
        ∙ sym (filtered_is (values_of_mesh empty (seen_through w r) mesh) (cells_along mesh w.shape.width) (cells_along mesh w.shape.height) i j (i_below u)
        (j_below v))
        ∙ sym (ap (λ (xs : List ℤ). number_in_grid xs (cells_along mesh w.shape.width) i j) (filtered_values_is empty (seen_through w r) mesh))
      where
        i_below : (i ≡ cell_before (cells_along mesh w.shape.width) mesh x) ⊎ (i ≡ cell_after (cells_along mesh w.shape.width) mesh x)
            → i < cells_along mesh w.shape.width
        i_below (inl e) = subst (λ (n : ℕ). n < cells_along mesh w.shape.width) (sym e) across_same.before_seen
        i_below (inr e) = subst (λ (n : ℕ). n < cells_along mesh w.shape.width) (sym e) across_same.after_seen

        j_below : (j ≡ cell_before (cells_along mesh w.shape.height) mesh y) ⊎ (j ≡ cell_after (cells_along mesh w.shape.height) mesh y)
            → j < cells_along mesh w.shape.height
        j_below (inl e) = subst (λ (n : ℕ). n < cells_along mesh w.shape.height) (sym e) along_same.before_seen
        j_below (inr e) = subst (λ (n : ℕ). n < cells_along mesh w.shape.height) (sym e) along_same.after_seen

        beside_i : (i ≡ cell_before (cells_along mesh w.shape.width) mesh x) ⊎ (i ≡ cell_after (cells_along mesh w.shape.width) mesh x)
            → (k : ℕ) → k < cells_along mesh r.shape.width → i + w.left / mesh ≤ k + 1 → k ≤ i + w.left / mesh + 1 → IsNeeded false mesh (x + w.left) k
        beside_i (inl e) k l a b =
            let f : cell_before (cells_along mesh r.shape.width) mesh (x + w.left) ≡ i + w.left / mesh =
            across_same.before ∙ ap (λ (n : ℕ). n + w.left / mesh) (sym e) in
            across_same.beside_before k l (subst (λ (n : ℕ). n ≤ k + 1) (sym f) a) (subst (λ (n : ℕ). k ≤ n + 1) (sym f) b)
        beside_i (inr e) k l a b =
            let f : cell_after (cells_along mesh r.shape.width) mesh (x + w.left) ≡ i + w.left / mesh =
            across_same.after ∙ ap (λ (n : ℕ). n + w.left / mesh) (sym e) in
            across_same.beside_after k l (subst (λ (n : ℕ). n ≤ k + 1) (sym f) a) (subst (λ (n : ℕ). k ≤ n + 1) (sym f) b)

        beside_j : (j ≡ cell_before (cells_along mesh w.shape.height) mesh y) ⊎ (j ≡ cell_after (cells_along mesh w.shape.height) mesh y)
            → (k : ℕ) → k < cells_along mesh r.shape.height → j + w.top / mesh ≤ k + 1 → k ≤ j + w.top / mesh + 1 → IsNeeded false mesh (y + w.top) k
        beside_j (inl e) k l a b =
            let f : cell_before (cells_along mesh r.shape.height) mesh (y + w.top) ≡ j + w.top / mesh =
            along_same.before ∙ ap (λ (n : ℕ). n + w.top / mesh) (sym e) in
            along_same.beside_before k l (subst (λ (n : ℕ). n ≤ k + 1) (sym f) a) (subst (λ (n : ℕ). k ≤ n + 1) (sym f) b)
        beside_j (inr e) k l a b =
            let f : cell_after (cells_along mesh r.shape.height) mesh (y + w.top) ≡ j + w.top / mesh =
            along_same.after ∙ ap (λ (n : ℕ). n + w.top / mesh) (sym e) in
            along_same.beside_after k l (subst (λ (n : ℕ). n ≤ k + 1) (sym f) a) (subst (λ (n : ℕ). k ≤ n + 1) (sym f) b)

    -- so the level is the same
    smooth_same : interpolated (filtered_values empty r mesh) (cells_along mesh r.shape.width) (cells_along mesh r.shape.height) mesh (x + w.left) (y + w.top)
        ≡ interpolated (filtered_values empty (seen_through w r) mesh) (cells_along mesh w.shape.width) (cells_along mesh w.shape.height) mesh x y
    smooth_same = level_same (filtered_values empty r mesh) (filtered_values empty (seen_through w r) mesh) mesh r.shape.width w.shape.width r.shape.height w.shape.height
        w.left w.top (w.left / mesh) (w.top / mesh) x y
        across_same along_same filtered_same

-- ---- the laws

-- the background of a pixel of the window that is clear
pub background_is_seen : BackgroundIsSeen
unfolding seen_through
background_is_seen empty r w flat mesh q plane inside some on l clear = go flat
    (subst (λ (n : ℕ). IsClearAlong flat mesh w.left w.shape.width r.shape.width n) at.column clear.across)
    (subst (λ (n : ℕ). IsClearAlong flat mesh w.top w.shape.height r.shape.height n) at.row clear.along)
    (subst (λ (n : ℕ). HaveDefined empty r flat mesh n (q / w.shape.width + w.top)) at.column
    (subst (λ (n : ℕ). HaveDefined empty r flat mesh (in_whole r.shape.width w q % r.shape.width) n) at.row clear.defined))
  where
    at : IsAt r.shape.width w.shape.width w.left w.top (in_whole r.shape.width w q) q
    at = in_whole-at r.shape w q inside

    xl : q % w.shape.width < w.shape.width
    xl = mod_below q w.shape.width (some_columns w.shape)

    yl : q / w.shape.width < w.shape.height
    yl = div_below q w.shape.width w.shape.height (some_columns w.shape) (omega (arith, l))

    go : (flat : Bool) → IsClearAlong flat mesh w.left w.shape.width r.shape.width (q % w.shape.width + w.left)
        → IsClearAlong flat mesh w.top w.shape.height r.shape.height (q / w.shape.width + w.top)
        → HaveDefined empty r flat mesh (q % w.shape.width + w.left) (q / w.shape.width + w.top)
        → background empty (seen_through w r) mesh flat q ≡ background empty r mesh flat (in_whole r.shape.width w q)
    go true a b c =
        background_flat empty (seen_through w r) mesh q some
        ∙ flat_same empty r w mesh plane inside some on (q % w.shape.width) (q / w.shape.width) xl yl a b c
        ∙ ap (λ (n : ℕ). mesh_value empty r mesh (n / mesh * cells_along mesh r.shape.width + (q % w.shape.width + w.left) / mesh)) (sym at.row)
        ∙ ap (λ (n : ℕ). mesh_value empty r mesh (in_whole r.shape.width w q / r.shape.width / mesh * cells_along mesh r.shape.width + n / mesh)) (sym at.column)
        ∙ sym (background_flat empty r mesh (in_whole r.shape.width w q) some)
    go false a b c =
        background_smooth empty (seen_through w r) mesh q some
        ∙ sym (smooth_same empty r w mesh plane inside some on (q % w.shape.width) (q / w.shape.width) xl yl a b c)
        ∙ ap (λ (n : ℕ). interpolated (filtered_values empty r mesh) (cells_along mesh r.shape.width) (cells_along mesh r.shape.height) mesh
        (q % w.shape.width + w.left) n) (sym at.row)
        ∙ ap (λ (n : ℕ). interpolated (filtered_values empty r mesh) (cells_along mesh r.shape.width) (cells_along mesh r.shape.height) mesh n
        (in_whole r.shape.width w q / r.shape.width)) (sym at.column)
        ∙ sym (background_smooth empty r mesh (in_whole r.shape.width w q) some)

-- a pixel of the residual
pub residual_value : (empty : Option ℤ) (r : Raster) (mesh : ℕ) (flat : Bool) (p : ℕ) → p < length r.values
    → value_at (residual_with empty r mesh flat).values p ≡ option_map (λ v. v -ℤ background empty r mesh flat p) (value_at r.values p)
unfolding residual_with residual_at pixels
residual_value empty r mesh flat p l =
    get_or-map-range_with_len (λ q. option_map (λ v. v -ℤ background empty r mesh flat q) (value_at r.values q)) 0 (length r.values) p p None l (omega arith)

-- it has the shape of the plane
pub residual_shape : (empty : Option ℤ) (r : Raster) (mesh : ℕ) (flat : Bool) → (residual_with empty r mesh flat).shape ≡ r.shape
unfolding residual_with
residual_shape empty r mesh flat = refl

-- and its residual
pub residual_is_seen : ResidualIsSeen
residual_is_seen empty r w flat mesh q plane inside some on l clear =
    residual_value empty (seen_through w r) mesh flat q (subst (λ (n : ℕ). q < n) (sym (seen-length w r)) l)
    ∙ ap (λ (o : Option ℤ). option_map (λ v. v -ℤ background empty (seen_through w r) mesh flat q) o) (seen-value w r q l)
    ∙ ap (λ (z : ℤ). option_map (λ v. v -ℤ z) (value_at r.values (in_whole r.shape.width w q)))
    (background_is_seen empty r w flat mesh q plane inside some on l clear)
    ∙ sym (residual_value empty r mesh flat (in_whole r.shape.width w q) below)
  where
    below : in_whole r.shape.width w q < length r.values
    below =
        let e : length r.values ≡ r.shape.width * r.shape.height = plane in
        let k : in_whole r.shape.width w q < r.shape.width * r.shape.height = in_whole-below r.shape w q inside l in omega arith

-- so the window's residual shows the whole's there
pub residual_is_shown : ResidualIsShown
unfolding residual_with seen_through
residual_is_shown empty r w flat mesh sure plane inside some on within = record {
  shape_is = seen-shape w r;
  inside = inside;
  shown = λ p l k. let g = within p k in record {
    it = g.0;
    below = subst (λ (n : ℕ). g.0 < n) (sym (is_plane empty (seen_through w r) mesh flat seen_plane)) g.1;
    place = g.2;
    same = ap (value_at (residual_with empty r mesh flat).values) (sym g.2)
        ∙ sym (residual_is_seen empty r w flat mesh g.0 plane inside some on g.1 (subst (λ (n : ℕ). IsClear empty r w flat mesh n) (sym g.2) g.3));
  };
}
  where
    seen_plane : IsPlane (seen_through w r)
    seen_plane = seen-length w r ∙ sym (ap (λ (x : Shape). x.width * x.height) (seen-shape w r))

-- and the window tells where that is
pub clear_is_told : ClearIsToldFromTheWindow
clear_is_told empty r w flat mesh q plane inside some on clear_x clear_y defined = record {
  across = subst (λ (n : ℕ). IsClearAlong flat mesh w.left w.shape.width r.shape.width n) (sym at.column) clear_x;
  along = subst (λ (n : ℕ). IsClearAlong flat mesh w.top w.shape.height r.shape.height n) (sym at.row) clear_y;
  defined = subst (λ (n : ℕ). HaveDefined empty r flat mesh n (in_whole r.shape.width w q / r.shape.width)) (sym at.column)
      (subst (λ (n : ℕ). HaveDefined empty r flat mesh (q % w.shape.width + w.left) n) (sym at.row) have);
}
  where
    at : IsAt r.shape.width w.shape.width w.left w.top (in_whole r.shape.width w q) q
    at = in_whole-at r.shape w q inside

    have : HaveDefined empty r flat mesh (q % w.shape.width + w.left) (q / w.shape.width + w.top)
    have none c d cl dl nc nd =
        let u : IsSeenCell mesh w.shape.width (w.left / mesh) c =
        whole_seen mesh w.left w.shape.width r.shape.width (w.left / mesh) c (side_across r w mesh plane inside some on) cl (clear_x c cl nc) in
        let v : IsSeenCell mesh w.shape.height (w.top / mesh) d =
        whole_seen mesh w.top w.shape.height r.shape.height (w.top / mesh) d (side_along r w mesh plane inside some on) dl (clear_y d dl nd) in
        let b : (b : ℕ) × IsTrue (is_defined (seen_through w r) b) × (mesh_cell_of mesh w.shape.width b ≡ v.it * cells_along mesh w.shape.width + u.it) =
        defined none u.it v.it u.below v.below (subst (λ (n : ℕ). IsNeeded flat mesh (q % w.shape.width + w.left) n) u.is nc)
        (subst (λ (n : ℕ). IsNeeded flat mesh (q / w.shape.width + w.top) n) v.is nd) in
        let few : b.0 < w.shape.width * w.shape.height = subst (λ (n : ℕ). b.0 < n) (seen-length w r) (below_from_defined (seen_through w r) b.0 b.1) in
        let parts : (b.0 / w.shape.width / mesh ≡ v.it) × (b.0 % w.shape.width / mesh ≡ u.it) =
        cell_parts mesh w.shape.width b.0 u.it v.it some (some_columns w.shape) u.below b.2 in
        let places : (in_whole r.shape.width w b.0 % r.shape.width / mesh ≡ b.0 % w.shape.width / mesh + w.left / mesh)
        × (in_whole r.shape.width w b.0 / r.shape.width / mesh ≡ b.0 / w.shape.width / mesh + w.top / mesh) = whole_cell r w mesh plane inside some on b.0 in (
          in_whole r.shape.width w b.0,
          subst (λ (o : Option ℤ). is_some o ≡ true) (seen-value w r b.0 few) b.1,
          cell_from mesh r.shape.width (in_whole r.shape.width w b.0) c d (places.1 ∙ ap (λ (n : ℕ). n + w.top / mesh) parts.0 ∙ sym v.is)
              (places.0 ∙ ap (λ (n : ℕ). n + w.left / mesh) parts.1 ∙ sym u.is),
        )
