-- The values of the defined pixels of a list, gathered run by run.
use Rattle.std.proofs.Common.{◌≡◌, ℕ, ◌+◌, ◌-◌, ◌*◌, ◌<◌, ◌≤◌, suc, min, cond, List, [], ◌∷◌, ◌++◌, length, map, refl, sym, ap, ◌∙◌, arith}
use Rattle.std.specs.Prelude.{ℤ, pos, filter, Option, Some, None, unwrap_or, is_some, slice_get}
use Rattle.std.specs.Option.{option_to_list}
use Rattle.std.specs.List.{flat_map, range_with_len}
use Rattle.std.proofs.lemmas.List.{map-append, append-nil, append_assoc}
use Rattle.std.proofs.lemmas.List.Elements.{filter-append}
use Rattle.std.proofs.Math.Nat.{mul-le-mul_right}
use Rattle.comp_tree.specs.Raster.{Raster, IsPlane, pixels, value_at, is_defined, level}
use Rattle.mesh_background.specs.Medians.{lower_median}
use Rattle.mesh_background.specs.Bounds.{IsCell}
use Rattle.mesh_background.specs.Mesh.{cell_count, defined_values, cell_pixels, image_value, empty_value, mesh_value, values_of_mesh}
use Rattle.mesh_background.proofs.Extents.{range-append, pixels_before, before-start, before-row, before-end, pixels_of_cell}

pub defined-append : (r : Raster) (ps qs : List ℕ) → defined_values r (ps ++ qs) ≡ defined_values r ps ++ defined_values r qs
unfolding defined_values
defined-append r ps qs = ap (map (level r)) (filter-append (is_defined r) ps qs) ∙ map-append (level r) (filter (is_defined r) ps) (filter (is_defined r) qs)

pub defined-none : (r : Raster) → defined_values r [] ≡ []
unfolding defined_values
defined-none r = refl

defined-one : (r : Raster) (p : ℕ) → defined_values r (p ∷ []) ≡ option_to_list (value_at r.values p)
unfolding defined_values level
defined-one r p = go (value_at r.values p) refl
  where
    go : (o : Option ℤ) → value_at r.values p ≡ o → map (level r) (cond (is_some o) (p ∷ []) []) ≡ option_to_list o
    go None e = refl
    go (Some v) e = ap (λ (o : Option ℤ). unwrap_or o (pos 0) ∷ []) e

-- a run of values, of which each is that of a pixel from `first` on
pub run-values : (r : Raster) (first : ℕ) (run : List (Option ℤ))
    → ((k : ℕ) → k < length run → value_at run k ≡ value_at r.values (first + k))
    → flat_map option_to_list run ≡ defined_values r (range_with_len first (length run))
run-values r first [] h = sym (defined-none r)
run-values r first (o ∷ run) h =
    let here : o ≡ value_at r.values first = h 0 (omega arith) ∙ ap (value_at r.values) (first-place first) in
    let rest : flat_map option_to_list run ≡ defined_values r (range_with_len (first + 1) (length run)) =
    run-values r (first + 1) run (λ k lt. h (suc k) (omega (arith, lt)) ∙ ap (value_at r.values) (next-place first k)) in
    ap (λ (xs : List ℤ). xs ++ flat_map option_to_list run) (ap (λ (v : Option ℤ). option_to_list v) here ∙ sym (defined-one r first))
    ∙ ap (λ (xs : List ℤ). defined_values r (first ∷ []) ++ xs) rest
    ∙ sym (defined-append r (first ∷ []) (range_with_len (first + 1) (length run)))
  where
    first-place : (n : ℕ) → n + 0 ≡ n
    first-place n = omega arith

    next-place : (n k : ℕ) → n + suc k ≡ n + 1 + k
    next-place n k = omega arith

-- the values so far are those of the first n pixels from `first` on, behind the old ones
pub gathered-none : (r : Raster) (first : ℕ) (old : List ℤ) → old ≡ old ++ defined_values r (range_with_len first 0)
gathered-none r first old = sym (append-nil old) ∙ ap (λ (xs : List ℤ). old ++ xs) (sym (defined-none r))

-- those of the m next ones, from p on, follow
pub gathered-more : (r : Raster) (first n m p count : ℕ) (old items new : List ℤ) → p ≡ first + n → n + m ≡ count
    → items ≡ old ++ defined_values r (range_with_len first n) → new ≡ items ++ defined_values r (range_with_len p m)
    → new ≡ old ++ defined_values r (range_with_len first count)
gathered-more r first n m p count old items new at long here is =
    let seen : List ℤ = defined_values r (range_with_len first n) in
    let more : List ℤ = defined_values r (range_with_len p m) in
    is ∙ ap (λ (xs : List ℤ). xs ++ more) here ∙ append_assoc old seen more
    ∙ ap (λ (xs : List ℤ). old ++ xs) (sym (defined-append r (range_with_len first n) (range_with_len p m)))
    ∙ ap (λ (ps : List ℕ). old ++ defined_values r ps) (sym (range-append first n m p at))
    ∙ ap (λ (q : ℕ). old ++ defined_values r (range_with_len first q)) long

-- ---- the rows of a cell

-- the values of those of the first n pixels that lie in cell k
abbrev pub values_before : Raster → ℕ → ℕ → ℕ → List ℤ
values_before r mesh k n = defined_values r (pixels_before mesh r.shape.width k n)

pub gather-start : (r : Raster) (mesh k left right top bottom y : ℕ) (items : List ℤ) → IsCell mesh r.shape.width r.shape.height k left right top bottom
    → y ≡ top → items ≡ []
    → items ≡ values_before r mesh k (y * r.shape.width)
gather-start r mesh k left right top bottom y items c e none =
    none ∙ sym (defined-none r) ∙ ap (defined_values r) (sym (before-start mesh r.shape.width r.shape.height k left right top bottom c))
    ∙ ap (λ (q : ℕ). values_before r mesh k (q * r.shape.width)) (sym e)

-- the pixels of a row of the cell are pixels of the plane
pub row-within : (r : Raster) (mesh k left right top bottom y w : ℕ) → IsPlane r → IsCell mesh r.shape.width r.shape.height k left right top bottom
    → y < bottom → w ≡ r.shape.width
    → y * w + right ≤ length r.values
row-within r mesh k left right top bottom y w plane c lt e =
    let width : ℕ = r.shape.width in
    let height : ℕ = r.shape.height in
    let short : right ≡ min (left + mesh) width = c.right_is in
    let low : bottom ≡ min (top + mesh) height = c.bottom_is in
    let rows : (y + 1) * width ≤ height * width = mul-le-mul_right width (omega arith) in
    let same : y * w ≡ y * width = ap (λ (q : ℕ). y * q) e in
    let long : length r.values ≡ width * height = plane in
    omega arith

pub gather-row : (r : Raster) (mesh k left right top bottom y w : ℕ) (items new : List ℤ) → IsCell mesh r.shape.width r.shape.height k left right top bottom
    → top ≤ y → y < bottom
    → w ≡ r.shape.width → items ≡ values_before r mesh k (y * r.shape.width)
    → new ≡ items ++ defined_values r (range_with_len (y * w + left) (y * w + right - (y * w + left)))
    → new ≡ values_before r mesh k ((y + 1) * r.shape.width)
gather-row r mesh k left right top bottom y w items new c low high e here is =
    let width : ℕ = r.shape.width in
    is ∙ ap (λ (q : ℕ). items ++ defined_values r (range_with_len (y * q + left) (y * q + right - (y * q + left)))) e
    ∙ ap (λ (xs : List ℤ). xs ++ defined_values r (range_with_len (y * width + left) (y * width + right - (y * width + left)))) here
    ∙ sym (defined-append r (pixels_before mesh width k (y * width)) (range_with_len (y * width + left) (y * width + right - (y * width + left))))
    ∙ ap (defined_values r) (sym (before-row mesh width r.shape.height k left right top bottom y c low high))

pub gather-end : (r : Raster) (mesh k left right top bottom y : ℕ) (items : List ℤ) → IsPlane r
    → IsCell mesh r.shape.width r.shape.height k left right top bottom → y ≡ bottom
    → items ≡ values_before r mesh k (y * r.shape.width) → items ≡ defined_values r (cell_pixels r mesh k)
gather-end r mesh k left right top bottom y items plane c e here =
    let width : ℕ = r.shape.width in
    let height : ℕ = r.shape.height in
    let low : bottom ≡ min (top + mesh) height = c.bottom_is in
    let rows : bottom * width ≤ height * width = mul-le-mul_right width (omega arith) in
    let long : length r.values ≡ width * height = plane in
    here ∙ ap (λ (q : ℕ). values_before r mesh k (q * width)) e
    ∙ ap (defined_values r) (before-end mesh width height k left right top bottom (length r.values) c long (omega arith) ∙ pixels_of_cell r mesh k)

-- ---- the whole image, and the cells that have no defined pixel

pub image-is : (r : Raster) (n : ℕ) (old new : List ℤ) → old ≡ [] → new ≡ old ++ defined_values r (range_with_len 0 (n - 0)) → n ≡ length r.values
    → new ≡ defined_values r (pixels r)
unfolding pixels
image-is r n old new none is count =
    let whole : n - 0 ≡ length r.values = omega arith in
    is ∙ ap (λ (xs : List ℤ). xs ++ defined_values r (range_with_len 0 (n - 0))) none ∙ ap (λ (q : ℕ). defined_values r (range_with_len 0 q)) whole

pub image-median : (r : Raster) (members : List ℤ) (median : Option ℤ) (value : ℤ) → members ≡ defined_values r (pixels r) → median ≡ lower_median members
    → value ≡ unwrap_or median (pos 0)
    → value ≡ image_value r
unfolding image_value
image-median r members median value all is got = got ∙ ap (λ (o : Option ℤ). unwrap_or o (pos 0)) (is ∙ ap lower_median all)

same_fill : (xs : List (Option ℤ)) (a b : ℤ) → ((k : ℕ) → slice_get xs k ≡ Some None → a ≡ b) → map (λ m. unwrap_or m a) xs ≡ map (λ m. unwrap_or m b) xs
same_fill [] a b h = refl
same_fill (None ∷ xs) a b h = ap (λ (z : ℤ). z ∷ map (λ m. unwrap_or m a) xs) (h 0 refl) ∙ ap (λ (ys : List ℤ). b ∷ ys) (same_fill xs a b (λ k e. h (suc k) e))
same_fill (Some v ∷ xs) a b h = ap (λ (ys : List ℤ). v ∷ ys) (same_fill xs a b (λ k e. h (suc k) e))

fill-map : (empty : Option ℤ) (r : Raster) (mesh : ℕ) (ks : List ℕ)
    → map (λ m. unwrap_or m (empty_value empty r)) (map (λ k. lower_median (defined_values r (cell_pixels r mesh k))) ks) ≡ map (mesh_value empty r mesh) ks
unfolding mesh_value
fill-map empty r mesh [] = refl
fill-map empty r mesh (k ∷ ks) = ap (λ (ys : List ℤ). mesh_value empty r mesh k ∷ ys) (fill-map empty r mesh ks)

pub filled-is : (empty : Option ℤ) (r : Raster) (mesh : ℕ) (medians : List (Option ℤ)) (value : ℤ) (items : List ℤ)
    → medians ≡ map (λ k. lower_median (defined_values r (cell_pixels r mesh k))) (range_with_len 0 (cell_count mesh r.shape))
    → ((k : ℕ) → slice_get medians k ≡ Some None → value ≡ empty_value empty r) → items ≡ map (λ m. unwrap_or m value) medians → items ≡ values_of_mesh empty r mesh
unfolding values_of_mesh
filled-is empty r mesh medians value items are otherwise is =
    is ∙ same_fill medians value (empty_value empty r) otherwise ∙ ap (map (λ m. unwrap_or m (empty_value empty r))) are
    ∙ fill-map empty r mesh (range_with_len 0 (cell_count mesh r.shape))
