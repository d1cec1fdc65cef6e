-- Rows of pixels: where they and their cells stand, that these numbers fit, and rows that are lessened as far as their end.
use Rattle.std.proofs.Common.{◌≡◌, ℕ, ℤ, ◌+◌, ◌*◌, ◌<◌, ◌≤◌, min, List, Option, Fits, w32, refl, subst, arith}
use Rattle.std.proofs.Math.Nat.{mul_comm, mul-le-mul_right}
use Rattle.comp_tree.specs.Limits.{IsWithinLimits}
use Rattle.mesh_background.specs.Mesh.{cells_along}
use Rattle.mesh_background.specs.Lessened.{IsLessened}
use Rattle.mesh_background.specs.Slopes.{first_before}
use Rattle.mesh_background.proofs.Extents.{along-below, along-le}
use Rattle.mesh_background.proofs.Slopes.{runs-rise}
use Rattle.mesh_background.proofs.Lessening.{lessened-none, lessened-more, row-end}

-- ---- the pixels of a row

pub place-within : (width height y x : ℕ) → y < height → x ≤ width → y * width + x ≤ width * height
place-within width height y x down across =
    let le : (y + 1) * width ≤ height * width = mul-le-mul_right width (omega (arith, down)) in
    omega (arith, le, across, mul_comm width height)

pub place-fits : (width height y x : ℕ) → IsWithinLimits width height → y < height → x ≤ width → Fits w32 (y * width + x)
place-fits width height y x limits down across =
    let few : width * height ≤ 2147483647 = limits.few_pixels in
    let le : y * width + x ≤ width * height = place-within width height y x down across in
    omega (arith, few, le)

pub row-fits : (width height y : ℕ) → IsWithinLimits width height → y < height → Fits w32 (y * width)
row-fits width height y limits down =
    let few : width * height ≤ 2147483647 = limits.few_pixels in
    let le : y * width + 0 ≤ width * height = place-within width height y 0 down (omega arith) in
    omega (arith, few, le)

-- ---- the cells of a row

pub column-fits : (mesh width columns i : ℕ) → 0 < mesh → mesh ≤ 65535 → width ≤ 65535 → columns ≡ cells_along mesh width → i < columns
    → Fits w32 (i * mesh) × Fits w32 (i * mesh + mesh)
column-fits mesh width columns i some few narrow c lt =
    let across : i * mesh < width = along-below mesh width i some (subst (λ (n : ℕ). i < n) c lt) in
    (omega (arith, across, narrow), omega (arith, across, narrow, few))

-- the pixels of a cell lie in the row
pub column-within : (mesh width columns i right : ℕ) → 0 < mesh → columns ≡ cells_along mesh width → i < columns → right ≡ min (i * mesh + mesh) width
    → (i * mesh ≤ width) × (i * mesh ≤ right) × (right ≤ width)
column-within mesh width columns i right some c lt e =
    let across : i * mesh < width = along-below mesh width i some (subst (λ (n : ℕ). i < n) c lt) in
    (omega (arith, across), omega (arith, across, e), omega (arith, e))

-- there are few
pub columns-few : (mesh width columns : ℕ) → 0 < mesh → width ≤ 65535 → columns ≡ cells_along mesh width → columns ≤ 65535
columns-few mesh width columns some narrow c = let le : cells_along mesh width ≤ width = along-le mesh width some in omega (arith, le, narrow, c)

-- ---- rows that are lessened

-- before the row's first cell, and behind its last
pub row-none : (old : List (Option ℤ)) (by : ℕ → ℤ) (width mesh : ℕ) → IsLessened old by 0 (min (0 * mesh) width) old
row-none old by width mesh =
    let none : 0 ≡ min (0 * mesh) width = omega arith in
    subst (λ (n : ℕ). IsLessened old by 0 n old) none (lessened-none old by 0)

pub row-done : (old new : List (Option ℤ)) (by : ℕ → ℤ) (width mesh columns n : ℕ) → 0 < mesh → columns ≡ cells_along mesh width → columns ≤ n
    → IsLessened old by 0 (min (n * mesh) width) new → IsLessened old by 0 width new
row-done old new by width mesh columns n some c le h = subst (λ (k : ℕ). IsLessened old by 0 k new) (row-end mesh width columns n some c le) h

-- the same for runs
pub runs-none : (old : List (Option ℤ)) (by : ℕ → ℤ) (width mesh : ℕ) → IsLessened old by 0 (first_before mesh width 0) old
runs-none old by width mesh =
    let none : 0 ≡ first_before mesh width 0 = omega arith in
    subst (λ (n : ℕ). IsLessened old by 0 n old) none (lessened-none old by 0)

pub runs-next : (old m new : List (Option ℤ)) (by : ℕ → ℤ) (mesh width next : ℕ) → IsLessened old by 0 (first_before mesh width next) m
    → IsLessened m by (first_before mesh width next) (first_before mesh width (next + 1)) new
    → IsLessened old by 0 (first_before mesh width (next + 1)) new
runs-next old m new by mesh width next h k =
    lessened-more old m new by by 0 (first_before mesh width next) (first_before mesh width (next + 1)) h k (omega arith) (runs-rise mesh width next)
    (λ p low high. refl)

runs-end : (mesh width columns n : ℕ) → 0 < mesh → columns ≡ cells_along mesh width → columns + 1 ≤ n → first_before mesh width n ≡ width
runs-end mesh width columns n some c le =
    let all : min (columns * mesh) width ≡ width = row-end mesh width columns columns some c (omega arith) in
    let more : (columns + 1) * mesh ≤ n * mesh = mul-le-mul_right mesh le in
    omega (arith, all, more, some)

pub runs-done : (old new : List (Option ℤ)) (by : ℕ → ℤ) (width mesh columns n : ℕ) → 0 < mesh → columns ≡ cells_along mesh width → columns + 1 ≤ n
    → IsLessened old by 0 (first_before mesh width n) new → IsLessened old by 0 width new
runs-done old new by width mesh columns n some c le h = subst (λ (k : ℕ). IsLessened old by 0 k new) (runs-end mesh width columns n some c le) h

-- the first and the last pixel of a run
pub run-order : (mesh width next left right : ℕ) → left ≡ first_before mesh width next → right ≡ first_before mesh width (next + 1)
    → (left ≤ right) × (left ≤ width) × (right ≤ width)
run-order mesh width next left right e f =
    let rise : first_before mesh width next ≤ first_before mesh width (next + 1) = runs-rise mesh width next in
    (omega (arith, rise, e, f), omega (arith, e), omega (arith, f))
