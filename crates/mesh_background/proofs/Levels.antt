-- The levels between the numbers of four cells.
use Rattle.std.proofs.Common.{◌≡◌, ℕ, ◌+◌, ◌-◌, ◌*◌, ◌/◌, ◌%◌, ◌<◌, ◌≤◌, ◌^◌, List, length, sym, ap, ◌∙◌, subst, arith, ◌⊎◌, inl, inr}
use Rattle.std.specs.Prelude.{ℤ, pos, neg_ℤ, ◌+ℤ◌, ◌*ℤ◌, ◌≤ℤ◌, All}
use Rattle.std.specs.Int.{int_div_euclid}
use Rattle.std.proofs.lemmas.Bool.{cases_lt}
use Rattle.std.proofs.lemmas.Int.{ints, to_z-of_z}
use Rattle.std.proofs.lemmas.List.{get_or_past}
use Rattle.std.proofs.lemmas.Nat.{div-add-mod', mod_below, mul-le, mul-add-lt}
use mir.Syntax.{w64}
use mir.Val.{SFits}
use native.Mathlib.Nat.{mul-add, add-mul}
use Rattle.lemmas.proofs.Exported.{floor-from, floor-is, floor-up_to, times-sum, times-times}
use Rattle.comp_tree.specs.Limits.{IsWithin, IsInHalfRange}
use Rattle.mesh_background.specs.Laws.{PixelsLieBetweenCentres, LevelIsWeighed, WeightsComeToAll, LevelsStayBetween}
use Rattle.mesh_background.specs.Lessened.{IsWithinTimes, IsHalfRangeTimes}
use Rattle.mesh_background.specs.Smoothing.{number_in_grid}
use Rattle.mesh_background.specs.Interpolation.{pixel_centre, next_cell, past_centre, cell_before, cell_after, part_way, down_column, interpolated}
use Rattle.mesh_background.proofs.Scaling.{way-from, way-up_to}
use Rattle.mesh_background.proofs.Fitting.{IsUpTo, kept, up_to-fits, up_to-way, up_to-low, up_to-high}

-- ---- along a side

pub between_centres : PixelsLieBetweenCentres
unfolding next_cell past_centre
between_centres mesh x some =
    let t : ℕ = pixel_centre x + mesh in
    let whole : t / (2 * mesh) * (2 * mesh) + t % (2 * mesh) ≡ t = div-add-mod' t (2 * mesh) in
    let rest : t % (2 * mesh) < 2 * mesh = mod_below t (2 * mesh) (omega arith) in
    let n : ℕ = t / (2 * mesh) in
    let centre : (2 * n + 1) * mesh ≡ n * (2 * mesh) + mesh = omega arith in
    (omega (arith, whole, rest, centre), rest)

pub past-below : (mesh x : ℕ) → 0 < mesh → past_centre mesh x < 2 * mesh
past-below mesh x some = (between_centres mesh x some).1

-- ---- four weights

spread : (k m n : ℕ) (a c : ℤ) → pos k *ℤ (pos m *ℤ a +ℤ pos n *ℤ c) ≡ pos (k * m) *ℤ a +ℤ pos (k * n) *ℤ c
spread k m n a c =
    times-sum k (pos m *ℤ a) (pos n *ℤ c) ∙ ap (λ (z : ℤ). z +ℤ pos k *ℤ (pos n *ℤ c)) (sym (times-times k m a))
    ∙ ap (λ (z : ℤ). pos (k * m) *ℤ a +ℤ z) (sym (times-times k n c))

spread_twice : (k l m n : ℕ) (a b c d : ℤ) → pos k *ℤ (pos m *ℤ a +ℤ pos n *ℤ c) +ℤ pos l *ℤ (pos m *ℤ b +ℤ pos n *ℤ d)
    ≡ (pos (k * m) *ℤ a +ℤ pos (k * n) *ℤ c) +ℤ (pos (l * m) *ℤ b +ℤ pos (l * n) *ℤ d)
spread_twice k l m n a b c d =
    ap (λ (z : ℤ). z +ℤ pos l *ℤ (pos m *ℤ b +ℤ pos n *ℤ d)) (spread k m n a c)
    ∙ ap (λ (z : ℤ). (pos (k * m) *ℤ a +ℤ pos (k * n) *ℤ c) +ℤ z) (spread l m n b d)

pub level_is_weighed : LevelIsWeighed
unfolding interpolated part_way
level_is_weighed values columns rows mesh x y =
    ap (λ (z : ℤ). int_div_euclid z (pos (2 * mesh * (2 * mesh))))
    (spread_twice (2 * mesh - past_centre mesh x) (past_centre mesh x) (2 * mesh - past_centre mesh y) (past_centre mesh y) _ _ _ _)

sides_come_to_square : (k l m n w : ℕ) → k + l ≡ w → m + n ≡ w → (k * m + k * n) + (l * m + l * n) ≡ w * w
sides_come_to_square k l m n w across down =
    ap (λ i. i + (l * m + l * n)) (sym (mul-add k m n)) ∙ ap (λ i. k * (m + n) + i) (sym (mul-add l m n)) ∙ sym (add-mul k l (m + n))
    ∙ ap (λ i. i * (m + n)) across ∙ ap (λ i. w * i) down

pub weights_come_to_all : WeightsComeToAll
weights_come_to_all mesh x y some =
    let across : past_centre mesh x < 2 * mesh = past-below mesh x some in
    let down : past_centre mesh y < 2 * mesh = past-below mesh y some in
    sides_come_to_square (2 * mesh - past_centre mesh x) (past_centre mesh x) (2 * mesh - past_centre mesh y) (past_centre mesh y) (2 * mesh)
    (omega (arith, across)) (omega (arith, down))

-- ---- part of the way

pub square : (n : ℕ) → 0 < n → 0 < n * n
square n some = let more : n * 1 ≤ n * n = mul-le n 1 n n (omega arith) some in omega (arith, more)

-- a level between two numbers that are `whole` times such ones
pub level-from : (whole part : ℕ) (p q low : ℤ) → 0 < whole → part ≤ whole → (pos whole *ℤ low) ≤ℤ p → (pos whole *ℤ low) ≤ℤ q
    → low ≤ℤ int_div_euclid (part_way whole part p q) (pos (whole * whole))
level-from whole part p q low some le a b =
    let z : ℤ = part_way whole part p q in
    let e : pos (whole * whole) *ℤ low ≡ pos whole *ℤ (pos whole *ℤ low) = times-times whole whole low in
    let bound : (pos whole *ℤ (pos whole *ℤ low)) ≤ℤ z = way-from whole part p q (pos whole *ℤ low) le a b in
    floor-from z (whole * whole) (int_div_euclid z (pos (whole * whole))) low (floor-is z (whole * whole) (square whole some))
    (subst (λ (y : ℤ). y ≤ℤ z) (sym e) bound)

pub level-up_to : (whole part : ℕ) (p q high : ℤ) → 0 < whole → part ≤ whole → p ≤ℤ (pos whole *ℤ high) → q ≤ℤ (pos whole *ℤ high)
    → int_div_euclid (part_way whole part p q) (pos (whole * whole)) ≤ℤ high
level-up_to whole part p q high some le a b =
    let z : ℤ = part_way whole part p q in
    let e : pos (whole * whole) *ℤ high ≡ pos whole *ℤ (pos whole *ℤ high) = times-times whole whole high in
    let bound : z ≤ℤ (pos whole *ℤ (pos whole *ℤ high)) = way-up_to whole part p q (pos whole *ℤ high) le a b in
    floor-up_to z (whole * whole) (int_div_euclid z (pos (whole * whole))) high (square whole some) (floor-is z (whole * whole) (square whole some))
    (subst (λ (y : ℤ). z ≤ℤ y) (sym e) bound)

-- ---- the level at a pixel

-- each number of a grid is so, where those of its list are
pub each-number : (P : ℤ → Type 0) (values : List ℤ) (columns i j : ℕ) → All P values → j * columns + i < length values → P (number_in_grid values columns i j)
each-number P values columns i j all lt = all (j * columns + i) (pos 0) lt

-- the four cells lie within the grid
pub cell-within : (columns rows i j : ℕ) → i < columns → j < rows → j * columns + i < columns * rows
cell-within columns rows i j il jl = mul-add-lt j columns i rows jl il

down-between : (values : List ℤ) (columns rows mesh y i : ℕ) (low high : ℤ) → i < columns → 0 < rows → length values ≡ columns * rows → 0 < mesh
    → All (λ v. (low ≤ℤ v) × (v ≤ℤ high)) values
    → ((pos (2 * mesh) *ℤ low) ≤ℤ down_column values columns rows mesh y i) × (down_column values columns rows mesh y i ≤ℤ (pos (2 * mesh) *ℤ high))
down-between values columns rows mesh y i low high il some long cells all =
    let past : past_centre mesh y < 2 * mesh = past-below mesh y cells in
    let k : cell_before rows mesh y * columns + i < length values =
    subst (λ (n : ℕ). cell_before rows mesh y * columns + i < n) (sym long) (cell-within columns rows i (cell_before rows mesh y) il (omega arith)) in
    let l : cell_after rows mesh y * columns + i < length values =
    subst (λ (n : ℕ). cell_after rows mesh y * columns + i < n) (sym long) (cell-within columns rows i (cell_after rows mesh y) il (omega arith)) in
    let p : (low ≤ℤ number_in_grid values columns i (cell_before rows mesh y)) × (number_in_grid values columns i (cell_before rows mesh y) ≤ℤ high) =
    each-number (λ v. (low ≤ℤ v) × (v ≤ℤ high)) values columns i (cell_before rows mesh y) all k in
    let q : (low ≤ℤ number_in_grid values columns i (cell_after rows mesh y)) × (number_in_grid values columns i (cell_after rows mesh y) ≤ℤ high) =
    each-number (λ v. (low ≤ℤ v) × (v ≤ℤ high)) values columns i (cell_after rows mesh y) all l in (
      way-from (2 * mesh) (past_centre mesh y) _ _ low (omega (arith, past)) p.0 q.0,
      way-up_to (2 * mesh) (past_centre mesh y) _ _ high (omega (arith, past))
          p.1 q.1,
    )

pub stay_between : LevelsStayBetween
unfolding interpolated
stay_between values columns rows mesh x y low high wide some long cells all =
    let past : past_centre mesh x < 2 * mesh = past-below mesh x cells in
    let p = down-between values columns rows mesh y (cell_before columns mesh x) low high (omega arith) some long cells all in
    let q = down-between values columns rows mesh y (cell_after columns mesh x) low high (omega arith) some long cells all in (
      level-from (2 * mesh) (past_centre mesh x) _ _ low (omega arith) (omega (arith, past)) p.0 q.0,
      level-up_to (2 * mesh) (past_centre mesh x) _ _ high (omega arith) (omega (arith, past)) p.1 q.1,
    )

-- ---- within a bound

pub within-zero : (b : ℕ) → IsWithin b (pos 0)
within-zero b = record { low = omega (arith, ints); high = omega (arith, ints) }

pub within-number : (b : ℕ) (values : List ℤ) (columns i j : ℕ) → All (IsWithin b) values → IsWithin b (number_in_grid values columns i j)
within-number b values columns i j all = go (cases_lt (j * columns + i) (length values))
  where
    go : (j * columns + i < length values) ⊎ (length values ≤ j * columns + i) → IsWithin b (number_in_grid values columns i j)
    go (inl lt) = all (j * columns + i) (pos 0) lt
    go (inr le) = subst (IsWithin b) (sym (get_or_past values (j * columns + i) (pos 0) le)) (within-zero b)

pub half-up_to : (z : ℤ) → IsInHalfRange z → IsUpTo (2 ^ 36) z
half-up_to z h = record { low = h.low; high = h.high }

within-up_to : (b : ℕ) (z : ℤ) → IsWithin b z → IsUpTo b z
within-up_to b z h = record { low = h.low; high = h.high }

pub times-up_to : (whole : ℕ) (z : ℤ) → IsHalfRangeTimes whole z → IsUpTo (whole * 2 ^ 36) z
times-up_to whole z h = record { low = h.low; high = h.high }

within_times-up_to : (b whole : ℕ) (z : ℤ) → IsWithinTimes b whole z → IsUpTo (whole * b) z
within_times-up_to b whole z h = record { low = h.low; high = h.high }

-- such a number fits its type, so it is kept
pub times-kept : (mesh : ℕ) (z : ℤ) → mesh ≤ 65535 → IsHalfRangeTimes (2 * mesh) z → IsHalfRangeTimes (2 * mesh) (kept w64 z)
times-kept mesh z few h =
    let fits : SFits w64 z = up_to-fits w64 (2 * mesh * 2 ^ 36) z (omega (arith, few)) (times-up_to (2 * mesh) z h) in
    subst (λ (y : ℤ). IsHalfRangeTimes (2 * mesh) y) (sym (to_z-of_z w64 z fits)) h

pub within-way : (b whole part : ℕ) (p q : ℤ) → part ≤ whole → IsWithin b p → IsWithin b q → IsWithinTimes b whole (part_way whole part p q)
within-way b whole part p q le first second =
    let k : IsUpTo (whole * b) (part_way whole part p q) = up_to-way whole part b p q le (within-up_to b p first) (within-up_to b q second) in
    record { low = k.low; high = k.high }

pub within-level : (b whole part : ℕ) (p q : ℤ) → 0 < whole → part ≤ whole → IsWithinTimes b whole p → IsWithinTimes b whole q
    → IsWithin b (int_div_euclid (part_way whole part p q) (pos (whole * whole)))
within-level b whole part p q some le first second = record {
  low = level-from whole part p q (neg_ℤ (pos b)) some le (up_to-low whole b p (within_times-up_to b whole p first))
      (up_to-low whole b q (within_times-up_to b whole q second));
  high = level-up_to whole part p q (pos b) some le (up_to-high whole b p (within_times-up_to b whole p first))
      (up_to-high whole b q (within_times-up_to b whole q second));
}

pub within-down : (b : ℕ) (values : List ℤ) (columns rows mesh y i : ℕ) → 0 < mesh → All (IsWithin b) values
    → IsWithinTimes b (2 * mesh) (down_column values columns rows mesh y i)
within-down b values columns rows mesh y i some all =
    let past : past_centre mesh y < 2 * mesh = past-below mesh y some in
    within-way b (2 * mesh) (past_centre mesh y) _ _ (omega (arith, past))
    (within-number b values columns i (cell_before rows mesh y) all) (within-number b values columns i (cell_after rows mesh y) all)

pub within-interpolated : (b : ℕ) (values : List ℤ) (columns rows mesh x y : ℕ) → 0 < mesh → All (IsWithin b) values
    → IsWithin b (interpolated values columns rows mesh x y)
unfolding interpolated
within-interpolated b values columns rows mesh x y some all =
    let past : past_centre mesh x < 2 * mesh = past-below mesh x some in
    within-level b (2 * mesh) (past_centre mesh x) _ _ (omega arith) (omega (arith, past))
    (within-down b values columns rows mesh y (cell_before columns mesh x) some all) (within-down b values columns rows mesh y (cell_after columns mesh x) some all)

-- ---- as the code computes it

-- where a pixel lies along a side, as it was computed
pub record IsPlaced (count mesh pixel before after past : ℕ) : Type 0 where
  pub before_is : before ≡ cell_before count mesh pixel
  pub after_is : after ≡ cell_after count mesh pixel
  pub past_is : past ≡ past_centre mesh pixel

-- each of the two is a cell of the side
pub placed-within : (count mesh pixel before after past : ℕ) → 0 < count → IsPlaced count mesh pixel before after past → (before < count) × (after < count)
placed-within count mesh pixel before after past some h =
    let b : before ≡ cell_before count mesh pixel = h.before_is in
    let a : after ≡ cell_after count mesh pixel = h.after_is in
    (omega (arith, b, some), omega (arith, a, some))
