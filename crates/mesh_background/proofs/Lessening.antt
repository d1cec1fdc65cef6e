-- Rows from whose values the levels of their pixels are taken away, some pixels at a time, and planes of such rows.
use Rattle.std.proofs.Common.{◌≡◌, ℕ, ◌+◌, ◌-◌, ◌*◌, ◌/◌, ◌%◌, ◌<◌, ◌≤◌, min, Bool, true, false, List, length, get_or, refl, sym, ap, subst, ◌∙◌}
use Rattle.std.proofs.Common.{arith, ◌⊎◌, inl, inr}
use Rattle.std.specs.Prelude.{ℤ, pos, ◌-ℤ◌, Option, Some, None, IfSome}
use Rattle.std.specs.Option.{option_map}
use Rattle.std.proofs.lemmas.Bool.{cases_lt}
use Rattle.std.proofs.lemmas.List.FromFn.{get_or-map-range_with_len}
use Rattle.std.proofs.Math.Nat.{mul_comm, mul-le-mul_right}
use Rattle.std.proofs.lemmas.Nat.{div-add-mod', mod_below, div_below, div-mul-add, mod-mul-add, mul-add-lt}
use Rattle.comp_tree.specs.Limits.{IsWithinLimits}
use Rattle.comp_tree.specs.declared.shape.Shape.{Shape}
use Rattle.comp_tree.specs.Raster.{Raster, IsPlane, value_at}
use Rattle.mesh_background.specs.Mesh.{cells_along, cell_count, mesh_cell_of, mesh_value, values_of_mesh}
use Rattle.comp_tree.specs.Limits.{IsInHalfRange}
use Rattle.comp_tree.specs.Writing.{IsWritten}
use Rattle.mesh_background.specs.Lessened.{numbers_under, number_of_cell, level_of, IsInHalfRangeFrom, IsLessened}
use Rattle.mesh_background.specs.Interpolation.{interpolated}
use Rattle.mesh_background.specs.Residuals.{pixel_level, background, residual_at, residual_with}
use Rattle.mesh_background.specs.declared.slope.Mixed.{Mixed}
use Rattle.mesh_background.specs.Slopes.{steps_on, first_before}
use Rattle.mesh_background.proofs.Slopes.{IsRun, run-level, run-along, runs-rise}
use Rattle.mesh_background.proofs.Extents.{cell-below, along-above, along-below, cells_few}
use Rattle.mesh_background.proofs.Residuals.{background-flat, background-smooth, cell-number, residual-all}

-- ---- one run of pixels after the other

pub lessened-none : (old : List (Option ℤ)) (by : ℕ → ℤ) (n : ℕ) → IsLessened old by n n old
lessened-none old by n = record { one_each = refl; before = λ p lt. refl; inside = λ p le lt. absurd (omega arith); behind = λ p le. refl }

pub lessened-more : (old m new : List (Option ℤ)) (by others : ℕ → ℤ) (a b c : ℕ) → IsLessened old by a b m → IsLessened m others b c new → a ≤ b → b ≤ c
    → ((p : ℕ) → b ≤ p → p < c → others p ≡ by p) → IsLessened old by a c new
lessened-more old m new by others a b c h k ab bc same = record {
  one_each = k.one_each ∙ h.one_each;
  before = λ p lt. k.before p (omega arith) ∙ h.before p lt;
  inside = λ p le lt. go p le lt (cases_lt p b);
  behind = λ p le. k.behind p le ∙ h.behind p (omega arith);
}
  where
    go : (p : ℕ) → a ≤ p → p < c → (p < b) ⊎ (b ≤ p) → value_at new p ≡ option_map (λ v. v -ℤ by p) (value_at old p)
    go p le lt (inl low) = k.before p low ∙ h.inside p le low
    go p le lt (inr high) = k.inside p high lt ∙ ap (λ (z : ℤ). option_map (λ v. v -ℤ z) (value_at m p)) (same p high lt)
        ∙ ap (option_map (λ v. v -ℤ by p)) (h.behind p high)

-- the same with other words for what is taken away
pub lessened-same : (old new : List (Option ℤ)) (by others : ℕ → ℤ) (a b : ℕ) → IsLessened old others a b new → a ≤ b
    → ((p : ℕ) → a ≤ p → p < b → others p ≡ by p) → IsLessened old by a b new
lessened-same old new by others a b h le same = lessened-more old old new by others a a b (lessened-none old by a) h (omega arith) le same

-- ---- values in half of the range

pub half_from-later : (old new : List (Option ℤ)) (by : ℕ → ℤ) (a b c : ℕ) → IsInHalfRangeFrom a old → IsLessened old by c b new → a ≤ b
    → IsInHalfRangeFrom b new
half_from-later old new by a b c h k le = record { each = λ p v low e. h.each p v (omega arith) (sym (k.behind p low) ∙ e) }

pub half_from-at : (values : List (Option ℤ)) (first p : ℕ) → IsInHalfRangeFrom first values → first ≤ p → IfSome (value_at values p) (λ v. IsInHalfRange v)
half_from-at values first p h le = go (value_at values p) refl
  where
    go : (o : Option ℤ) → value_at values p ≡ o → IfSome o (λ v. IsInHalfRange v)
    go None e = tt
    go (Some v) e = h.each p v le e

-- ---- the number of a pixel's cell

-- the pixels of row y that stand in column i of the mesh
pub column-of : (mesh i x : ℕ) → 0 < mesh → i * mesh ≤ x → x < i * mesh + mesh → x / mesh ≡ i
column-of mesh i x some low high =
    let rest : x ≡ i * mesh + (x - i * mesh) = omega arith in
    ap (λ (n : ℕ). n / mesh) rest ∙ div-mul-add i mesh (x - i * mesh) (omega arith)

pub number-in : (mesh width columns y i x : ℕ) (numbers : List ℤ) → 0 < mesh → columns ≡ cells_along mesh width → i * mesh ≤ x → x < i * mesh + mesh → x < width
    → get_or numbers (y / mesh * columns + i) (pos 0) ≡ number_of_cell mesh width numbers (y * width + x)
number-in mesh width columns y i x numbers some c low high inside =
    let column : x / mesh ≡ i = column-of mesh i x some low high in
    ap (λ (n : ℕ). get_or numbers (y / mesh * n + i) (pos 0)) c
    ∙ ap (λ (n : ℕ). get_or numbers (y / mesh * cells_along mesh width + n) (pos 0)) (sym column)
    ∙ ap (λ (n : ℕ). get_or numbers n (pos 0)) (sym (cell-number mesh width x y inside))

-- the place of a row's cell in the list of all
pub place-few : (mesh width height columns y i : ℕ) → 0 < mesh → IsWithinLimits width height → columns ≡ cells_along mesh width → y < height → i < columns
    → (y / mesh * columns + i < cells_along mesh width * cells_along mesh height) × (cells_along mesh width * cells_along mesh height ≤ 2147483647)
place-few mesh width height columns y i some limits c yl il =
    let down : y / mesh < cells_along mesh height = along-above mesh height y some yl in
    let inside : y / mesh * columns + i < columns * cells_along mesh height = mul-add-lt (y / mesh) columns i (cells_along mesh height) down il in
    (subst (λ (n : ℕ). y / mesh * columns + i < n * cells_along mesh height) c inside, cells_few mesh width height some limits)

-- where a row's cell begins
pub column-start : (mesh width columns i : ℕ) → 0 < mesh → columns ≡ cells_along mesh width → i < columns → min (i * mesh) width ≡ i * mesh
column-start mesh width columns i some c il =
    let across : i * mesh < width = along-below mesh width i some (subst (λ (n : ℕ). i < n) c il) in
    omega arith

-- the next cell of a row
pub row-next : (old m new : List (Option ℤ)) (mesh width columns y i right : ℕ) (numbers : List ℤ) (number : ℤ) → 0 < mesh → columns ≡ cells_along mesh width
    → i < columns → number ≡ get_or numbers (y / mesh * columns + i) (pos 0) → right ≡ min (i * mesh + mesh) width
    → IsLessened old (λ x. number_of_cell mesh width numbers (y * width + x)) 0 (min (i * mesh) width) m
    → IsLessened m (λ _. number) (i * mesh) right new
    → IsLessened old (λ x. number_of_cell mesh width numbers (y * width + x)) 0 (min ((i + 1) * mesh) width) new
row-next old m new mesh width columns y i right numbers number some c il is e h k =
    let by : ℕ → ℤ = λ x. number_of_cell mesh width numbers (y * width + x) in
    let across : i * mesh < width = along-below mesh width i some (subst (λ (n : ℕ). i < n) c il) in
    let start : min (i * mesh) width ≡ i * mesh = omega arith in
    let next : (i + 1) * mesh ≡ i * mesh + mesh = omega arith in
    let so_far : IsLessened old by 0 (i * mesh) m = subst (λ (n : ℕ). IsLessened old by 0 n m) start h in
    subst (λ (n : ℕ). IsLessened old by 0 n new) (e ∙ ap (λ (n : ℕ). min n width) (sym next))
    (lessened-more old m new by (λ _. number) 0 (i * mesh) right so_far k (omega arith) (omega arith)
    (λ x low high. is ∙ number-in mesh width columns y i x numbers some c low (omega arith) (omega arith)))

pub row-end : (mesh width columns n : ℕ) → 0 < mesh → columns ≡ cells_along mesh width → columns ≤ n → min (n * mesh) width ≡ width
row-end mesh width columns n some c le =
    let whole : cells_along mesh width * mesh + (width + (mesh - 1)) % mesh ≡ width + (mesh - 1) = div-add-mod' (width + (mesh - 1)) mesh in
    let rest : (width + (mesh - 1)) % mesh < mesh = mod_below (width + (mesh - 1)) mesh some in
    let more : cells_along mesh width * mesh ≤ n * mesh = mul-le-mul_right mesh (omega arith) in
    omega arith

-- the level at the pixel in column x of row y
pub level-in : (mesh : ℕ) (shape : Shape) (values : List ℤ) (columns rows x y : ℕ) → columns ≡ cells_along mesh shape.width
    → rows ≡ cells_along mesh shape.height → x < shape.width
    → interpolated values columns rows mesh x y ≡ pixel_level mesh shape values (y * shape.width + x)
unfolding pixel_level
level-in mesh shape values columns rows x y c r lt =
    (λ i. interpolated values (c i) (r i) mesh x y)
    ∙ (λ i. interpolated values (cells_along mesh shape.width) (cells_along mesh shape.height) mesh (sym (mod-mul-add y shape.width x lt) i)
    (sym (div-mul-add y shape.width x lt) i))

-- the pixels of a run, where the levels rise evenly
pub run-lessened : (old new : List (Option ℤ)) (shape : Shape) (mesh columns rows y next left right : ℕ) (numbers : List ℤ) (level step : Mixed) → 0 < mesh
    → columns ≡ cells_along mesh shape.width → rows ≡ cells_along mesh shape.height
    → left ≡ first_before mesh shape.width next → right ≡ first_before mesh shape.width (next + 1)
    → IsRun numbers columns rows mesh y left level step
    → IsLessened old (λ x. steps_on (2 * mesh * (2 * mesh)) level step (x - left)) left right new
    → IsLessened old (λ x. pixel_level mesh shape numbers (y * shape.width + x)) left right new
run-lessened old new shape mesh columns rows y next left right numbers level step some c d l e h k =
    let width : ℕ = shape.width in
    let rise : first_before mesh width next ≤ first_before mesh width (next + 1) = runs-rise mesh width next in
    lessened-same old new (λ x. pixel_level mesh shape numbers (y * width + x)) (λ x. steps_on (2 * mesh * (2 * mesh)) level step (x - left)) left right k
    (omega (arith, rise, l, e))
    (λ x low high.
    let n : ℕ = x - left in
    let inside : n < first_before mesh width (next + 1) - left = omega (arith, low, high, e) in
    let column : left + n < width = omega (arith, inside, l) in
    let place : left + n ≡ x = omega (arith, low) in
    run-level numbers columns rows mesh y left (left + n) n level step h (run-along mesh width next left n some l inside)
    ∙ level-in mesh shape numbers columns rows (left + n) y c d column ∙ ap (λ (m : ℕ). pixel_level mesh shape numbers (y * width + m)) place)

-- ---- all pixels

cell-inside : (mesh width height p : ℕ) → 0 < mesh → 0 < width → p < width * height
    → mesh_cell_of mesh width p < cells_along mesh width * cells_along mesh height
unfolding mesh_cell_of
cell-inside mesh width height p some wide lt =
    cell-below mesh width height (p % width) (p / width) some (mod_below p width wide) (div_below p width height wide (omega (arith, mul_comm width height)))

lessened-at : (empty : Option ℤ) (r : Raster) (mesh p : ℕ) (numbers : List ℤ) → 0 < mesh → numbers ≡ values_of_mesh empty r mesh
    → mesh_cell_of mesh r.shape.width p < cell_count mesh r.shape
    → number_of_cell mesh r.shape.width numbers p ≡ background empty r mesh true p
unfolding values_of_mesh
lessened-at empty r mesh p numbers some is lt =
    ap (λ (vs : List ℤ). get_or vs (mesh_cell_of mesh r.shape.width p) (pos 0)) is
    ∙ get_or-map-range_with_len (mesh_value empty r mesh) 0 (cell_count mesh r.shape) (mesh_cell_of mesh r.shape.width p) (mesh_cell_of mesh r.shape.width p) (pos 0)
    lt (omega arith)
    ∙ sym (background-flat empty r mesh p some)

-- the level that the code takes from a pixel is its background
pub level-is : (empty : Option ℤ) (r : Raster) (mesh : ℕ) (flat : Bool) (numbers : List ℤ) (p : ℕ) → 0 < mesh → 0 < r.shape.width → IsPlane r
    → numbers ≡ numbers_under empty r mesh flat → p < length r.values → level_of flat mesh r.shape numbers p ≡ background empty r mesh flat p
level-is empty r mesh true numbers p some wide plane is lt =
    lessened-at empty r mesh p numbers some is (cell-inside mesh r.shape.width r.shape.height p some wide (omega (arith, plane, lt)))
level-is empty r mesh false numbers p some wide plane is lt =
    ap (λ (vs : List ℤ). pixel_level mesh r.shape vs p) is ∙ sym (background-smooth empty r mesh p some)

-- a plane whose pixels are all less by their background
pub lessened-all : (empty : Option ℤ) (r new : Raster) (mesh : ℕ) (flat : Bool) (numbers : List ℤ) → 0 < mesh → 0 < r.shape.width → IsPlane r
    → numbers ≡ numbers_under empty r mesh flat → new.shape ≡ r.shape → length new.values ≡ length r.values
    → ((p : ℕ) → p < length r.values
    → value_at new.values p ≡ option_map (λ v. v -ℤ level_of flat mesh r.shape numbers p) (value_at r.values p))
    → new ≡ residual_with empty r mesh flat
unfolding residual_at
lessened-all empty r new mesh flat numbers some wide plane is same one_each each =
    residual-all empty r new mesh flat (length r.values) written (omega arith)
  where
    written : IsWritten r (residual_at empty r mesh flat) (length r.values) new
    written = record {
      shape_is = same;
      one_each = one_each;
      written = λ p lt. each p lt
          ∙ ap (λ (z : ℤ). option_map (λ v. v -ℤ z) (value_at r.values p)) (level-is empty r mesh flat numbers p some wide plane is lt);
    }
