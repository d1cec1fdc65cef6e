-- The cells of a mesh: how many there are, and that each pixel lies in one.
use Rattle.std.proofs.Common.{◌≡◌, ℕ, ◌+◌, ◌-◌, ◌*◌, ◌/◌, ◌%◌, ◌<◌, ◌≤◌, sym, ap, subst, ◌∙◌, arith, ◌⊎◌, inl, inr}
use Rattle.std.proofs.lemmas.Bool.{cases_lt}
use Rattle.std.proofs.lemmas.Nat.{div-add-mod', mod_below, div_below, mul-le, mul-add-lt}
use Rattle.std.proofs.Math.Nat.{mul-le-mul_right}
use Rattle.comp_tree.specs.declared.shape.Shape.{Shape}
use Rattle.mesh_background.specs.Mesh.{cells_along, cell_count}

-- a side has at most as many cells as pixels
along-le : (mesh side : ℕ) → 0 < mesh → cells_along mesh side ≤ side
along-le mesh side some = go (cases_lt side (cells_along mesh side))
  where
    go : (side < cells_along mesh side) ⊎ (cells_along mesh side ≤ side) → cells_along mesh side ≤ side
    go (inr le) = le
    go (inl lt) =
        let c : ℕ = cells_along mesh side in
        let whole : c * mesh + (side + (mesh - 1)) % mesh ≡ side + (mesh - 1) = div-add-mod' (side + (mesh - 1)) mesh in
        let more : (side + 1) * mesh ≤ c * mesh = mul-le-mul_right mesh (omega arith) in
        let low : side * 1 ≤ side * mesh = mul-le side 1 side mesh (omega arith) some in
        absurd (omega arith)

-- there are at most as many cells as pixels
pub cells-few : (mesh : ℕ) (shape : Shape) → 0 < mesh → cell_count mesh shape ≤ 2147483647
cells-few mesh shape some =
    let few : shape.width * shape.height ≤ 2147483647 = shape.within_limits.few_pixels in
    let le : cell_count mesh shape ≤ shape.width * shape.height =
    mul-le (cells_along mesh shape.width) (cells_along mesh shape.height) shape.width shape.height (along-le mesh shape.width some)
    (along-le mesh shape.height some) in
    omega arith

-- the cell of a pixel is one of the mesh
pub cell-within : (mesh : ℕ) (shape : Shape) (p : ℕ) → 0 < mesh → p < shape.width * shape.height
    → p / shape.width / mesh * cells_along mesh shape.width + p % shape.width / mesh < cell_count mesh shape
cell-within mesh shape p some below =
    let wide : 0 < shape.width = shape.within_limits.some_columns in
    let row : p / shape.width < shape.height = div_below p shape.width shape.height wide (omega arith) in
    let column : p % shape.width < shape.width = mod_below p shape.width wide in
    mul-add-lt (p / shape.width / mesh) (cells_along mesh shape.width) (p % shape.width / mesh) (cells_along mesh shape.height)
    (within shape.height (p / shape.width) row) (within shape.width (p % shape.width) column)
  where
    -- the cell of a pixel along a side
    within : (side x : ℕ) → x < side → x / mesh < cells_along mesh side
    within side x lt =
        let c : ℕ = cells_along mesh side in
        let whole : c * mesh + (side + (mesh - 1)) % mesh ≡ side + (mesh - 1) = div-add-mod' (side + (mesh - 1)) mesh in
        let rest : (side + (mesh - 1)) % mesh < mesh = mod_below (side + (mesh - 1)) mesh some in
        div_below x mesh c some (omega arith)

-- the same, as the code computes it
pub cell-read : (mesh : ℕ) (shape : Shape) (p columns : ℕ) → 0 < mesh → p < shape.width * shape.height → columns ≡ cells_along mesh shape.width
    → p / shape.width / mesh * columns + p % shape.width / mesh < cell_count mesh shape
cell-read mesh shape p columns some below e =
    subst (λ (n : ℕ). p / shape.width / mesh * n + p % shape.width / mesh < cell_count mesh shape) (sym e) (cell-within mesh shape p some below)

pub cells-read : (mesh : ℕ) (shape : Shape) (columns rows : ℕ) → 0 < mesh → columns ≡ cells_along mesh shape.width → rows ≡ cells_along mesh shape.height
    → columns * rows ≤ 2147483647
cells-read mesh shape columns rows some c r =
    let few : cell_count mesh shape ≤ 2147483647 = cells-few mesh shape some in
    let e : columns * rows ≡ cells_along mesh shape.width * cells_along mesh shape.height =
    ap (λ (n : ℕ). n * rows) c ∙ ap (λ (n : ℕ). cells_along mesh shape.width * n) r in
    omega arith
