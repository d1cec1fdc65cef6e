-- The cells along a side of an image and along that of a window of it, whose corner stands on the mesh.
use Rattle.std.proofs.Common.{◌≡◌, ℕ, ◌+◌, ◌-◌, ◌*◌, ◌/◌, ◌%◌, ◌<◌, ◌≤◌, false, ◌∙◌, ap, subst, arith, ◌⊎◌, inl, inr}
use Rattle.std.proofs.lemmas.Bool.{cases_lt}
use Rattle.std.proofs.lemmas.Nat.{div-add-mod', div-mul-add, mod_below, div_below}
use Rattle.std.proofs.Math.Nat.{mul-le-mul_right, add-mul-div_left, add-mul-mod_self_left}
use Rattle.mesh_background.specs.Mesh.{cells_along}
use Rattle.mesh_background.specs.Interpolation.{pixel_centre, next_cell, past_centre, cell_before, cell_after}
use Rattle.mesh_background.specs.Windows.{IsWholeCell, IsNeeded, IsClearAlong}
use Rattle.mesh_background.proofs.Extents.{along-above, along-below, columns-some}

-- the window's side starts at cell `first`
pub record IsSide (mesh corner side whole first : ℕ) : Type 0 where
  pub some : 0 < mesh
  pub wide : 0 < side
  pub corner_is : corner ≡ first * mesh
  pub fits : corner + side ≤ whole

-- cell c of the whole is cell `it` of the window
pub record IsSeenCell (mesh side first c : ℕ) : Type 0 where
  pub it : ℕ
  pub is : c ≡ it + first
  pub below : it < cells_along mesh side

-- the cell of the first pixel of cell c is c
times_div : (c mesh : ℕ) → 0 < mesh → c * mesh / mesh ≡ c
times_div c mesh some = let e : c * mesh ≡ c * mesh + 0 = omega arith in ap (λ (n : ℕ). n / mesh) e ∙ div-mul-add c mesh 0 some

-- a side that reaches into cell c has it
pub cell_below : (mesh side c : ℕ) → 0 < mesh → c * mesh < side → c < cells_along mesh side
cell_below mesh side c some l = subst (λ (n : ℕ). n < cells_along mesh side) (times_div c mesh some) (along-above mesh side (c * mesh) some l)

-- a cell that lies whole in the window is one of its cells
pub whole_seen : (mesh corner side whole first c : ℕ) → IsSide mesh corner side whole first → c < cells_along mesh whole → IsWholeCell mesh corner side whole c
    → IsSeenCell mesh side first c
whole_seen mesh corner side whole first c k l w = record { it = c - first; is = omega (arith, above); below = cell_below mesh side (c - first) k.some inside }
  where
    corner_is : corner ≡ first * mesh
    corner_is = k.corner_is

    above : first ≤ c
    above = go (cases_lt c first)
      where
        go : (c < first) ⊎ (first ≤ c) → first ≤ c
        go (inr le) = le
        go (inl lt) =
            let more : (c + 1) * mesh ≤ first * mesh = mul-le-mul_right mesh (omega arith) in
            let next : (c + 1) * mesh ≡ c * mesh + mesh = omega arith in
            let low : corner ≤ c * mesh = w.low in
            let some : 0 < mesh = k.some in
            absurd (omega arith)

    parts : (c - first) * mesh + first * mesh ≡ c * mesh
    parts =
        let e : c - first + first ≡ c = omega (arith, above) in
        let d : (c - first) * mesh + first * mesh ≡ (c - first + first) * mesh = omega arith in d ∙ ap (λ (n : ℕ). n * mesh) e

    inside : (c - first) * mesh < side
    inside = go w.high
      where
        go : ((c + 1) * mesh ≤ corner + side) ⊎ (corner + side ≡ whole) → (c - first) * mesh < side
        go (inl h) = let next : (c + 1) * mesh ≡ c * mesh + mesh = omega arith in let some : 0 < mesh = k.some in omega (arith, parts, corner_is)
        go (inr e) = let lt : c * mesh < whole = along-below mesh whole c k.some l in omega (arith, parts, corner_is)

-- and each of the window's cells is one of the whole
pub seen_whole : (mesh corner side whole first c : ℕ) → IsSide mesh corner side whole first → c < cells_along mesh side → c + first < cells_along mesh whole
seen_whole mesh corner side whole first c k l =
    cell_below mesh whole (c + first) k.some
    (let low : c * mesh < side = along-below mesh side c k.some l in
    let e : (c + first) * mesh ≡ c * mesh + first * mesh = omega arith in
    let f : corner ≡ first * mesh = k.corner_is in
    let g : corner + side ≤ whole = k.fits in
    omega arith)

-- the cell of a pixel moves with it
pub moved_cell : (mesh first x : ℕ) → 0 < mesh → (x + first * mesh) / mesh ≡ x / mesh + first
moved_cell mesh first x some = let e : x + first * mesh ≡ x + mesh * first = omega arith in ap (λ (n : ℕ). n / mesh) e ∙ add-mul-div_left x first some

-- ---- between centres

-- the cell past the pixel moves with the pixel, and the way past the centre before it stays
next-moved : (mesh first x : ℕ) → 0 < mesh
    → (next_cell mesh (x + first * mesh) ≡ next_cell mesh x + first) × (past_centre mesh (x + first * mesh) ≡ past_centre mesh x)
unfolding next_cell past_centre
next-moved mesh first x some = (
  ap (λ (n : ℕ). n / (2 * mesh)) e ∙ add-mul-div_left (pixel_centre x + mesh) first (omega arith),
  ap (λ (n : ℕ). n % (2 * mesh)) e
      ∙ add-mul-mod_self_left (pixel_centre x + mesh) (2 * mesh) first,
)
  where
    e : pixel_centre (x + first * mesh) + mesh ≡ pixel_centre x + mesh + 2 * mesh * first
    e = omega arith

-- the cells cover the side
covers : (mesh side : ℕ) → 0 < mesh → side ≤ cells_along mesh side * mesh
covers mesh side some =
    let whole : cells_along mesh side * mesh + (side + (mesh - 1)) % mesh ≡ side + (mesh - 1) = div-add-mod' (side + (mesh - 1)) mesh in
    let rest : (side + (mesh - 1)) % mesh < mesh = mod_below (side + (mesh - 1)) mesh some in
    omega arith

-- and the cell past a pixel of the side is at most the one after the last
next_few : (mesh side x : ℕ) → 0 < mesh → x < side → next_cell mesh x ≤ cells_along mesh side
unfolding next_cell
next_few mesh side x some l =
    let c : side ≤ cells_along mesh side * mesh = covers mesh side some in
    let e : (cells_along mesh side + 1) * (2 * mesh) ≡ cells_along mesh side * mesh + cells_along mesh side * mesh + 2 * mesh = omega arith in
    let k : (pixel_centre x + mesh) / (2 * mesh) < cells_along mesh side + 1 =
    div_below (pixel_centre x + mesh) (2 * mesh) (cells_along mesh side + 1) (omega arith) (omega arith) in
    omega arith

-- what the interpolation reads along a side is the same
pub record ReadsTheSame (mesh corner side whole first x : ℕ) : Type 0 where
  pub past : past_centre mesh (x + corner) ≡ past_centre mesh x
  pub before : cell_before (cells_along mesh whole) mesh (x + corner) ≡ cell_before (cells_along mesh side) mesh x + first
  pub after : cell_after (cells_along mesh whole) mesh (x + corner) ≡ cell_after (cells_along mesh side) mesh x + first
  pub before_seen : cell_before (cells_along mesh side) mesh x < cells_along mesh side
  pub after_seen : cell_after (cells_along mesh side) mesh x < cells_along mesh side
  pub beside_before : (k : ℕ) → k < cells_along mesh whole → cell_before (cells_along mesh whole) mesh (x + corner) ≤ k + 1
      → k ≤ cell_before (cells_along mesh whole) mesh (x + corner) + 1
      → IsNeeded false mesh (x + corner) k
  pub beside_after : (k : ℕ) → k < cells_along mesh whole → cell_after (cells_along mesh whole) mesh (x + corner) ≤ k + 1
      → k ≤ cell_after (cells_along mesh whole) mesh (x + corner) + 1
      → IsNeeded false mesh (x + corner) k

-- that holds where the window is clear there
pub reads_the_same : (mesh corner side whole first x : ℕ) → IsSide mesh corner side whole first → x < side
    → IsClearAlong false mesh corner side whole (x + corner) → ReadsTheSame mesh corner side whole first x
reads_the_same mesh corner side whole first x k inside clear = record {
  past = ap (λ (n : ℕ). past_centre mesh (x + n)) k.corner_is ∙ (next-moved mesh first x k.some).1;
  before = before;
  after = after;
  before_seen = omega (arith, many_there);
  after_seen = omega (arith, many_there);
  beside_before = λ j l a b. (omega (arith, few, many, a, b), omega (arith, few, many, a, b));
  beside_after = λ j l a b. (omega (arith, few, many, a, b), omega (arith, few, many, a, b));
}
  where
    n : ℕ
    n = next_cell mesh (x + corner)

    next : next_cell mesh (x + corner) ≡ next_cell mesh x + first
    next = ap (λ (m : ℕ). next_cell mesh (x + m)) k.corner_is ∙ (next-moved mesh first x k.some).0

    few : next_cell mesh (x + corner) ≤ cells_along mesh whole
    few = let f : corner + side ≤ whole = k.fits in next_few mesh whole (x + corner) k.some (omega arith)

    many : 0 < cells_along mesh whole
    many = let f : corner + side ≤ whole = k.fits in columns-some mesh whole k.some (omega arith)

    many_there : 0 < cells_along mesh side
    many_there = columns-some mesh side k.some k.wide

    seen : (c : ℕ) → c < cells_along mesh whole → next_cell mesh (x + corner) ≤ c + 2 → c ≤ next_cell mesh (x + corner) + 1 → IsSeenCell mesh side first c
    seen c l a b = whole_seen mesh corner side whole first c k l (clear c l (a, b))

    last : cells_along mesh side + first ≤ cells_along mesh whole
    last = let e : cells_along mesh side - 1 + first < cells_along mesh whole =
        seen_whole mesh corner side whole first (cells_along mesh side - 1) k (omega (arith, many_there)) in omega (arith, many_there)

    before : cell_before (cells_along mesh whole) mesh (x + corner) ≡ cell_before (cells_along mesh side) mesh x + first
    before = go (cases_lt 0 (next_cell mesh (x + corner)))
      where
        go : (0 < next_cell mesh (x + corner)) ⊎ (next_cell mesh (x + corner) ≤ 0)
            → cell_before (cells_along mesh whole) mesh (x + corner) ≡ cell_before (cells_along mesh side) mesh x + first
        go (inr z) = omega (arith, z, next, many, many_there)
        go (inl l) =
            let g : IsSeenCell mesh side first (next_cell mesh (x + corner) - 1) =
            seen (next_cell mesh (x + corner) - 1) (omega (arith, few)) (omega arith) (omega arith) in
            let e : next_cell mesh (x + corner) - 1 ≡ g.it + first = g.is in
            let b : g.it < cells_along mesh side = g.below in
            omega (arith, next, few, e, b)

    after : cell_after (cells_along mesh whole) mesh (x + corner) ≡ cell_after (cells_along mesh side) mesh x + first
    after = go (cases_lt (next_cell mesh (x + corner)) (cells_along mesh whole))
      where
        go : (next_cell mesh (x + corner) < cells_along mesh whole) ⊎ (cells_along mesh whole ≤ next_cell mesh (x + corner))
            → cell_after (cells_along mesh whole) mesh (x + corner) ≡ cell_after (cells_along mesh side) mesh x + first
        go (inl l) =
            let g : IsSeenCell mesh side first (next_cell mesh (x + corner)) = seen (next_cell mesh (x + corner)) l (omega arith) (omega arith) in
            let e : next_cell mesh (x + corner) ≡ g.it + first = g.is in
            let b : g.it < cells_along mesh side = g.below in
            omega (arith, next, l, e, b)
        go (inr l) =
            let g : IsSeenCell mesh side first (cells_along mesh whole - 1) =
            seen (cells_along mesh whole - 1) (omega (arith, many)) (omega (arith, few, many)) (omega (arith, l)) in
            let e : cells_along mesh whole - 1 ≡ g.it + first = g.is in
            let b : g.it < cells_along mesh side = g.below in
            omega (arith, next, few, l, e, b, last, many)
