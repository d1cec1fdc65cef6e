-- Which pixels lie in a cell of a mesh, and the values that are gathered over it row by row.
use Rattle.std.proofs.Common.{◌≡◌, ℕ, ◌+◌, ◌-◌, ◌*◌, ◌/◌, ◌%◌, ◌<◌, ◌≤◌, zero, suc, min, Bool, true, cond, List, [], ◌∷◌, ◌++◌, length, refl, sym, ap}
use Rattle.std.proofs.Common.{subst, ◌∙◌, arith, ◌⊎◌, inl, inr}
use Rattle.std.specs.Prelude.{◌==◌, filter}
use Rattle.std.specs.List.{range_with_len}
use Rattle.std.proofs.lemmas.Bool.{cases_lt, ne_eqb, eq-eqb}
use Rattle.std.proofs.lemmas.List.Elements.{filter-append}
use Rattle.std.proofs.lemmas.Nat.{div-add-mod', div-mul-add, mod-mul-add, mod_below, div_below, mul-le, mul-add-lt, same_from_place}
use Rattle.std.proofs.Math.Nat.{mul-le-mul_right}
use Rattle.comp_tree.specs.Limits.{IsWithinLimits}
use Rattle.comp_tree.specs.Raster.{Raster, pixels}
use Rattle.comp_tree.proofs.Exported.{row-from, filter-skip}
use Rattle.mesh_background.specs.Laws.{CellsAreSquares}
use Rattle.mesh_background.specs.Bounds.{IsCell}
use Rattle.mesh_background.specs.Mesh.{cells_along, mesh_cell_of, cell_pixels}

-- ---- how many cells lie along a side

pub along-above : (mesh side x : ℕ) → 0 < mesh → x < side → x / mesh < cells_along mesh side
along-above mesh side x some lt =
    let c : ℕ = cells_along mesh side in
    let whole : c * mesh + (side + (mesh - 1)) % mesh ≡ side + (mesh - 1) = div-add-mod' (side + (mesh - 1)) mesh in
    let rest : (side + (mesh - 1)) % mesh < mesh = mod_below (side + (mesh - 1)) mesh some in
    div_below x mesh c some (omega arith)

pub along-below : (mesh side j : ℕ) → 0 < mesh → j < cells_along mesh side → j * mesh < side
along-below mesh side j some lt =
    let c : ℕ = cells_along mesh side in
    let whole : c * mesh + (side + (mesh - 1)) % mesh ≡ side + (mesh - 1) = div-add-mod' (side + (mesh - 1)) mesh in
    let more : (j + 1) * mesh ≤ c * mesh = mul-le-mul_right mesh (omega arith) in
    omega arith

pub along-le : (mesh side : ℕ) → 0 < mesh → cells_along mesh side ≤ side
along-le mesh side some = go (cases_lt side (cells_along mesh side))
  where
    go : (side < cells_along mesh side) ⊎ (cells_along mesh side ≤ side) → cells_along mesh side ≤ side
    go (inr le) = le
    go (inl lt) =
        let low : side * mesh < side = along-below mesh side side some lt in
        let more : side * 1 ≤ side * mesh = mul-le side 1 side mesh (omega arith) some in
        absurd (omega arith)

-- there are at most as many cells as pixels
pub cells_few : (mesh width height : ℕ) → 0 < mesh → IsWithinLimits width height → cells_along mesh width * cells_along mesh height ≤ 2147483647
cells_few mesh width height some h =
    let few : width * height ≤ 2147483647 = h.few_pixels in
    let le : cells_along mesh width * cells_along mesh height ≤ width * height =
    mul-le (cells_along mesh width) (cells_along mesh height) width height (along-le mesh width some) (along-le mesh height some) in
    omega arith

pub cell-below : (mesh width height x y : ℕ) → 0 < mesh → x < width → y < height
    → y / mesh * cells_along mesh width + x / mesh < cells_along mesh width * cells_along mesh height
cell-below mesh width height x y some xl yl =
    mul-add-lt (y / mesh) (cells_along mesh width) (x / mesh) (cells_along mesh height) (along-above mesh height y some yl) (along-above mesh width x some xl)

-- the same, as the code computes them
pub cells-read : (mesh width height columns rows : ℕ) → 0 < mesh → IsWithinLimits width height → columns ≡ cells_along mesh width
    → rows ≡ cells_along mesh height → columns * rows ≤ 2147483647
cells-read mesh width height columns rows some h c r =
    let few : cells_along mesh width * cells_along mesh height ≤ 2147483647 = cells_few mesh width height some h in
    let e : columns * rows ≡ cells_along mesh width * cells_along mesh height = ap (λ (n : ℕ). n * rows) c ∙ ap (λ (n : ℕ). cells_along mesh width * n) r in
    omega arith

-- ---- the pixels of a cell

pub columns-some : (mesh width : ℕ) → 0 < mesh → 0 < width → 0 < cells_along mesh width
columns-some mesh width some wide = let k : 0 / mesh < cells_along mesh width = along-above mesh width 0 some wide in omega arith

-- the bounds of a cell, as the code computes them
pub cell-is : (mesh width height columns k : ℕ) → 0 < mesh → IsWithinLimits width height → columns ≡ cells_along mesh width
    → k < cells_along mesh width * cells_along mesh height
    → IsCell mesh width height k (k % columns * mesh) (min (k % columns * mesh + mesh) width) (k / columns * mesh) (min (k / columns * mesh + mesh) height)
cell-is mesh width height columns k some limits c lt =
    let n : ℕ = cells_along mesh width in
    let wide : 0 < width = limits.some_columns in
    let many : 0 < n = columns-some mesh width some wide in
    let column : k % n < n = mod_below k n many in
    let row : k / n < cells_along mesh height = div_below k n (cells_along mesh height) many (omega arith) in
    let across : k % n * mesh < width = along-below mesh width (k % n) some column in
    let down : k / n * mesh < height = along-below mesh height (k / n) some row in
    let x : k % columns * mesh ≡ k % n * mesh = ap (λ (q : ℕ). k % q * mesh) c in
    let y : k / columns * mesh ≡ k / n * mesh = ap (λ (q : ℕ). k / q * mesh) c in
    record { left_is = x; right_is = refl; top_is = y; bottom_is = refl; some_columns = omega arith; some_rows = omega arith }

mesh-of : (mesh width height k left right top bottom : ℕ) → IsCell mesh width height k left right top bottom → 0 < mesh
mesh-of mesh width height k left right top bottom c =
    let lt : left < right = c.some_columns in
    let e : right ≡ min (left + mesh) width = c.right_is in
    omega arith

pub wide-of : (mesh width height k left right top bottom : ℕ) → IsCell mesh width height k left right top bottom → 0 < width
wide-of mesh width height k left right top bottom c =
    let lt : left < right = c.some_columns in
    let e : right ≡ min (left + mesh) width = c.right_is in
    omega arith

-- a coordinate lies between the bounds exactly where it belongs to that column or row of cells
between : (mesh side j low high x : ℕ) → 0 < mesh → low ≡ j * mesh → high ≡ min (low + mesh) side → x / mesh ≡ j → x < side → (low ≤ x) × (x < high)
between mesh side j low high x some l h e lt =
    let whole : x / mesh * mesh + x % mesh ≡ x = div-add-mod' x mesh in
    let rest : x % mesh < mesh = mod_below x mesh some in
    let same : x / mesh * mesh ≡ j * mesh = ap (λ (i : ℕ). i * mesh) e in
    (omega arith, omega arith)

belongs : (mesh side j low high x : ℕ) → 0 < mesh → low ≡ j * mesh → high ≡ min (low + mesh) side → low ≤ x → x < high → x / mesh ≡ j
belongs mesh side j low high x some l h ge lt =
    let k : (x / mesh ≡ j) × (x % mesh ≡ x - j * mesh) = row-from mesh j x some (omega arith) (omega arith) in k.0

-- the pixel in column x of row y
in-cell : (mesh width height k left right top bottom x y : ℕ) → IsCell mesh width height k left right top bottom → x < width → left ≤ x → x < right → top ≤ y
    → y < bottom
    → mesh_cell_of mesh width (y * width + x) ≡ k
unfolding mesh_cell_of
in-cell mesh width height k left right top bottom x y c xw xl xr yt yb =
    let n : ℕ = cells_along mesh width in
    let row : (y * width + x) / width ≡ y = div-mul-add y width x xw in
    let column : (y * width + x) % width ≡ x = mod-mul-add y width x xw in
    let a : y / mesh ≡ k / n = belongs mesh height (k / n) top bottom y (mesh-of mesh width height k left right top bottom c) c.top_is c.bottom_is yt yb in
    let b : x / mesh ≡ k % n = belongs mesh width (k % n) left right x (mesh-of mesh width height k left right top bottom c) c.left_is c.right_is xl xr in
    ap (λ (q : ℕ). q / mesh * n + (y * width + x) % width / mesh) row ∙ ap (λ (q : ℕ). y / mesh * n + q / mesh) column
    ∙ ap (λ (q : ℕ). q * n + x / mesh) a ∙ ap (λ (q : ℕ). k / n * n + q) b ∙ div-add-mod' k n

-- where a pixel of the cell lies
record IsInside (width height left right top bottom p : ℕ) : Type 0 where
  left_of : left ≤ p % width
  right_of : p % width < right
  above : top ≤ p / width
  below : p / width < height → p / width < bottom

inside : (mesh width height k left right top bottom p : ℕ) → IsCell mesh width height k left right top bottom → mesh_cell_of mesh width p ≡ k
    → IsInside width height left right top bottom p
unfolding mesh_cell_of
inside mesh width height k left right top bottom p c e =
    let n : ℕ = cells_along mesh width in
    let short : p % width < width = mod_below p width (wide-of mesh width height k left right top bottom c) in
    let b : p % width / mesh < n = along-above mesh width (p % width) (mesh-of mesh width height k left right top bottom c) short in
    let row : p / width / mesh ≡ k / n = sym (div-mul-add (p / width / mesh) n (p % width / mesh) b) ∙ ap (λ (q : ℕ). q / n) e in
    let column : p % width / mesh ≡ k % n = sym (mod-mul-add (p / width / mesh) n (p % width / mesh) b) ∙ ap (λ (q : ℕ). q % n) e in
    let across : (left ≤ p % width) × (p % width < right) =
    between mesh width (k % n) left right (p % width) (mesh-of mesh width height k left right top bottom c) c.left_is c.right_is column short in
    let least : top ≤ p / width =
    (between mesh (p / width + 1) (k / n) top (min (top + mesh) (p / width + 1)) (p / width) (mesh-of mesh width height k left right top bottom c) c.top_is refl
    row (omega arith)).0 in
    record {
      left_of = across.0;
      right_of = across.1;
      above = least;
      below = λ lt. (between mesh height (k / n) top bottom (p / width) (mesh-of mesh width height k left right top bottom c) c.top_is c.bottom_is row lt).1;
    }

pub cells_are_squares : CellsAreSquares
unfolding mesh_cell_of
cells_are_squares mesh width p q some wide = (
  λ e.
      let n : ℕ = cells_along mesh width in
      let a : p % width / mesh < n = along-above mesh width (p % width) some (mod_below p width wide) in
      let b : q % width / mesh < n = along-above mesh width (q % width) some (mod_below q width wide) in
      let parts : (p / width / mesh ≡ q / width / mesh) × (p % width / mesh ≡ q % width / mesh) =
      same_from_place (p / width / mesh) (p % width / mesh) (q / width / mesh) (q % width / mesh) n a b e in
      (parts.1, parts.0),
  λ h. ap (λ (x : ℕ). p / width / mesh * cells_along mesh width + x) h.0 ∙ ap (λ (y : ℕ). y * cells_along mesh width + q % width / mesh) h.1,
)

-- ---- ranges of pixels

pub range-append : (a m n b : ℕ) → b ≡ a + m → range_with_len a (m + n) ≡ range_with_len a m ++ range_with_len b n
range-append a zero n b e = (λ i. range_with_len a (same i)) ∙ (λ i. range_with_len (start i) n)
  where
    same : zero + n ≡ n
    same = omega arith

    start : a ≡ b
    start = omega arith
range-append a (suc m) n b e = (λ i. range_with_len a (same i)) ∙ ap (λ (xs : List ℕ). a ∷ xs) (range-append (a + 1) m n b (omega arith))
  where
    same : suc m + n ≡ suc (m + n)
    same = omega arith

pub filter-every : (f : ℕ → Bool) (a n : ℕ) → ((p : ℕ) → a ≤ p → p < a + n → f p ≡ true) → filter f (range_with_len a n) ≡ range_with_len a n
filter-every f a zero h = refl
filter-every f a (suc n) h =
    ap (λ (b : Bool). cond b (a ∷ filter f (range_with_len (a + 1) n)) (filter f (range_with_len (a + 1) n))) (h a (omega arith) (omega arith))
    ∙ ap (λ (xs : List ℕ). a ∷ xs) (filter-every f (a + 1) n (λ p low high. h p (omega arith) (omega arith)))

-- those of the first n pixels that lie in cell k
unfoldable pub pixels_before : ℕ → ℕ → ℕ → ℕ → List ℕ
pixels_before mesh width k n = filter (λ p. mesh_cell_of mesh width p == k) (range_with_len 0 n)

-- pixels that lie outside change nothing
before-skip : (mesh width k m n : ℕ) → m ≤ n → ((p : ℕ) → m ≤ p → p < n → mesh_cell_of mesh width p ≡ k → ⊥)
    → pixels_before mesh width k m ≡ pixels_before mesh width k n
unfolding pixels_before
before-skip mesh width k m n le out =
    filter-skip (λ p. mesh_cell_of mesh width p == k) m n le (λ p low high. ne_eqb (mesh_cell_of mesh width p) k (out p low high))

before-run : (mesh width k m n : ℕ) → m ≤ n → ((p : ℕ) → m ≤ p → p < n → mesh_cell_of mesh width p ≡ k)
    → pixels_before mesh width k n ≡ pixels_before mesh width k m ++ range_with_len m (n - m)
unfolding pixels_before
before-run mesh width k m n le here =
    let f : ℕ → Bool = λ p. mesh_cell_of mesh width p == k in
    let long : n ≡ m + (n - m) = omega arith in
    ap (λ (q : ℕ). filter f (range_with_len 0 q)) long ∙ ap (filter f) (range-append 0 m (n - m) m (omega arith))
    ∙ filter-append f (range_with_len 0 m) (range_with_len m (n - m))
    ∙ ap (λ (xs : List ℕ). filter f (range_with_len 0 m) ++ xs)
    (filter-every f m (n - m) (λ p low high. eq-eqb (mesh_cell_of mesh width p) k (here p low (omega arith))))

before-none : (mesh width k : ℕ) → pixels_before mesh width k 0 ≡ []
unfolding pixels_before
before-none mesh width k = refl

-- none lies above the cell
pub before-start : (mesh width height k left right top bottom : ℕ) → IsCell mesh width height k left right top bottom
    → pixels_before mesh width k (top * width) ≡ []
before-start mesh width height k left right top bottom c =
    sym (before-skip mesh width k 0 (top * width) (omega arith) (λ p low high e. outside p high (inside mesh width height k left right top bottom p c e)))
    ∙ before-none mesh width k
  where
    outside : (p : ℕ) → p < top * width → IsInside width height left right top bottom p → ⊥
    outside p high i =
        let l : p / width < top = div_below p width top (wide-of mesh width height k left right top bottom c) high in
        let a : top ≤ p / width = i.above in
        absurd (omega arith)

-- and in a row of the cell those between its bounds
pub before-row : (mesh width height k left right top bottom y : ℕ) → IsCell mesh width height k left right top bottom → top ≤ y → y < bottom
    → pixels_before mesh width k ((y + 1) * width) ≡ pixels_before mesh width k (y * width)
    ++ range_with_len (y * width + left) (y * width + right - (y * width + left))
before-row mesh width height k left right top bottom y c yt yb =
    let ordered : left < right = c.some_columns in
    sym (before-skip mesh width k (y * width + right) ((y + 1) * width) (omega arith)
    (λ p low high e. after p low high (inside mesh width height k left right top bottom p c e)))
    ∙ before-run mesh width k (y * width + left) (y * width + right) (omega arith) (λ p low high. within p low high)
    ∙ ap (λ (ps : List ℕ). ps ++ range_with_len (y * width + left) (y * width + right - (y * width + left)))
    (sym (before-skip mesh width k (y * width) (y * width + left) (omega arith)
    (λ p low high e. before p low high (inside mesh width height k left right top bottom p c e))))
  where
    short : right ≤ width
    short = let r : right ≡ min (left + mesh) width = c.right_is in omega arith

    before : (p : ℕ) → y * width ≤ p → p < y * width + left → IsInside width height left right top bottom p → ⊥
    before p low high i =
        let at : (p / width ≡ y) × (p % width ≡ p - y * width) = row-from width y p (wide-of mesh width height k left right top bottom c) low (omega arith) in
        let l : left ≤ p % width = i.left_of in
        let e : p % width ≡ p - y * width = at.1 in
        absurd (omega arith)

    after : (p : ℕ) → y * width + right ≤ p → p < (y + 1) * width → IsInside width height left right top bottom p → ⊥
    after p low high i =
        let at : (p / width ≡ y) × (p % width ≡ p - y * width) = row-from width y p (wide-of mesh width height k left right top bottom c) (omega arith) high in
        let l : p % width < right = i.right_of in
        let e : p % width ≡ p - y * width = at.1 in
        absurd (omega arith)

    within : (p : ℕ) → y * width + left ≤ p → p < y * width + right → mesh_cell_of mesh width p ≡ k
    within p low high =
        let x : ℕ = p - y * width in
        let e : y * width + x ≡ p = omega arith in
        subst (λ (q : ℕ). mesh_cell_of mesh width q ≡ k) e
        (in-cell mesh width height k left right top bottom x y c (omega arith) (omega arith) (omega arith) yt yb)

-- and none below it
pub before-end : (mesh width height k left right top bottom n : ℕ) → IsCell mesh width height k left right top bottom → n ≡ width * height → bottom * width ≤ n
    → pixels_before mesh width k (bottom * width) ≡ pixels_before mesh width k n
before-end mesh width height k left right top bottom n c e le =
    before-skip mesh width k (bottom * width) n le (λ p low high i. outside p low high (inside mesh width height k left right top bottom p c i))
  where
    outside : (p : ℕ) → bottom * width ≤ p → p < n → IsInside width height left right top bottom p → ⊥
    outside p low high i =
        let l : p / width < height = div_below p width height (wide-of mesh width height k left right top bottom c) (omega arith) in
        let m : p / width < bottom = i.below l in
        let whole : p / width * width + p % width ≡ p = div-add-mod' p width in
        let short : p % width < width = mod_below p width (wide-of mesh width height k left right top bottom c) in
        let more : (p / width + 1) * width ≤ bottom * width = mul-le-mul_right width (omega arith) in
        absurd (omega arith)

pub pixels_of_cell : (r : Raster) (mesh k : ℕ) → pixels_before mesh r.shape.width k (length r.values) ≡ cell_pixels r mesh k
unfolding pixels_before cell_pixels pixels
pixels_of_cell r mesh k = refl

-- a cell has at most as many pixels as the image
pub room-few : (mesh width height k left right top bottom : ℕ) → IsWithinLimits width height → IsCell mesh width height k left right top bottom
    → (right - left) * (bottom - top) ≤ 2147483647
room-few mesh width height k left right top bottom limits c =
    let few : width * height ≤ 2147483647 = limits.few_pixels in
    let short : right ≡ min (left + mesh) width = c.right_is in
    let low : bottom ≡ min (top + mesh) height = c.bottom_is in
    let le : (right - left) * (bottom - top) ≤ width * height = mul-le (right - left) (bottom - top) width height (omega arith) (omega arith) in
    omega arith
