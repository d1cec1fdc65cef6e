-- Levels that rise evenly from pixel to pixel.
use Rattle.std.proofs.Common.{◌≡◌, ℕ, ◌+◌, ◌-◌, ◌*◌, ◌/◌, ◌%◌, ◌<◌, ◌≤◌, ◌^◌, suc, min, List, refl, sym, ap, subst, ◌∙◌, arith}
use Rattle.std.specs.Prelude.{ℤ, pos, negsuc, neg_ℤ, ◌+ℤ◌, ◌-ℤ◌, ◌*ℤ◌}
use Rattle.std.specs.Int.{int_div_euclid}
use Rattle.std.proofs.lemmas.Int.{ints, to_z-of_z}
use Rattle.std.proofs.lemmas.Nat.{div-add-mod', mod_below}
use Rattle.std.proofs.Math.IntN.{zero-*ℤ, pos-*ℤ-pos}
use mir.Syntax.{w64, w128}
use mir.Val.{SFits}
use Rattle.lemmas.proofs.Exported.{IsFloor, floor-from, floor-is, floor-one, floor-up_to, times-plus, times-suc, times-sum, times-times}
use Rattle.comp_tree.specs.Limits.{IsInHalfRange}
use Rattle.comp_tree.proofs.Exported.{row-from}
use Rattle.mesh_background.specs.declared.slope.Mixed.{Mixed}
use Rattle.mesh_background.specs.Smoothing.{number_in_grid}
use Rattle.mesh_background.specs.Interpolation.{pixel_centre, next_cell, past_centre, cell_before, cell_after, part_way, down_column, interpolated}
use Rattle.mesh_background.specs.Slopes.{in_parts, steps_on, first_before, IsSmallStep, IsSmallTimes}
use Rattle.mesh_background.proofs.Fitting.{IsUpTo, up_to-fits, up_to-pos, up_to-low, up_to-high, kept, product-kept, product-fits}
use Rattle.mesh_background.proofs.Levels.{past-below, half-up_to, IsPlaced}

-- ---- mixed numbers

pub mixed-floor : (parts : ℕ) (m : Mixed) → m.rest < parts → IsFloor (in_parts parts m) parts m.floor
mixed-floor parts m few = record { low = omega (arith, ints, few); high = omega (arith, ints, few) }

-- the units of a mixed number are its quotient
pub mixed-is : (parts : ℕ) (m : Mixed) (z : ℤ) → m.rest < parts → in_parts parts m ≡ z → m.floor ≡ int_div_euclid z (pos parts)
mixed-is parts m z few e =
    floor-one (in_parts parts m) parts m.floor (int_div_euclid (in_parts parts m) (pos parts)) (mixed-floor parts m few)
    (floor-is (in_parts parts m) parts (omega arith))
    ∙ ap (λ (y : ℤ). int_div_euclid y (pos parts)) e

-- one step more
pub steps-more : (k n : ℕ) (y z s : ℤ) → y ≡ z +ℤ pos k *ℤ s → n ≡ k + 1 → y +ℤ s ≡ z +ℤ pos n *ℤ s
steps-more k n y z s e f =
    let next : n ≡ suc k = omega arith in
    let more : pos (suc k) *ℤ s ≡ pos k *ℤ s +ℤ s = times-suc k s in
    let sum : y +ℤ s ≡ z +ℤ pos (suc k) *ℤ s = omega (arith, ints, e, more) in
    sum ∙ ap (λ (m : ℕ). z +ℤ pos m *ℤ s) (sym next)

-- ---- along a row

-- what lies between p and q rises by twice their difference, where the part rises by two
pub way-rises : (whole part k : ℕ) (p q s : ℤ) → part + k * 2 ≤ whole → s ≡ pos 2 *ℤ (q -ℤ p)
    → part_way whole (part + k * 2) p q ≡ part_way whole part p q +ℤ pos k *ℤ s
unfolding part_way
way-rises whole part k p q s le e =
    let rest : ℕ = whole - (part + k * 2) in
    let split : whole - part ≡ rest + k * 2 = omega arith in
    let a : pos (whole - part) *ℤ p ≡ pos rest *ℤ p +ℤ pos (k * 2) *ℤ p = ap (λ (n : ℕ). pos n *ℤ p) split ∙ times-plus rest (k * 2) p in
    let b : pos (part + k * 2) *ℤ q ≡ pos part *ℤ q +ℤ pos (k * 2) *ℤ q = times-plus part (k * 2) q in
    let c : q ≡ p +ℤ (q -ℤ p) = omega (arith, ints) in
    let d : pos (k * 2) *ℤ q ≡ pos (k * 2) *ℤ p +ℤ pos (k * 2) *ℤ (q -ℤ p) = ap (λ (z : ℤ). pos (k * 2) *ℤ z) c ∙ times-sum (k * 2) p (q -ℤ p) in
    let f : pos (k * 2) *ℤ (q -ℤ p) ≡ pos k *ℤ s = times-times k 2 (q -ℤ p) ∙ ap (λ (z : ℤ). pos k *ℤ z) (sym e) in
    omega (arith, ints, a, b, d, f)

-- a pixel whose centre lies between those of two cells, of which the second is `next`
pub between-cells : (mesh x next : ℕ) → 0 < mesh → next * mesh ≤ x + (mesh + 1) / 2 → x + (mesh + 1) / 2 < (next + 1) * mesh
    → (next_cell mesh x ≡ next) × (past_centre mesh x ≡ pixel_centre x + mesh - next * (2 * mesh))
unfolding next_cell past_centre
between-cells mesh x next some low high =
    let half : (mesh + 1) / 2 * 2 + (mesh + 1) % 2 ≡ mesh + 1 = div-add-mod' (mesh + 1) 2 in
    let odd : (mesh + 1) % 2 < 2 = mod_below (mesh + 1) 2 (omega arith) in
    row-from (2 * mesh) next (pixel_centre x + mesh) (omega arith) (omega (arith, half, odd)) (omega (arith, half, odd))

-- ---- the pixels of a run

-- those from the first one for which `next` is the next cell up to the first one for which the cell behind it is
pub run-inside : (mesh width next x : ℕ) → 0 < mesh → first_before mesh width next ≤ x → x < first_before mesh width (next + 1)
    → (next_cell mesh x ≡ next) × (past_centre mesh x ≡ pixel_centre x + mesh - next * (2 * mesh))
run-inside mesh width next x some low high = between-cells mesh x next some (omega (arith, low, high)) (omega (arith, low, high))

pub record IsAlong (mesh left x k : ℕ) : Type 0 where
  pub same : next_cell mesh x ≡ next_cell mesh left
  pub on : past_centre mesh x ≡ past_centre mesh left + k * 2
  pub few : past_centre mesh left + k * 2 ≤ 2 * mesh

pub run-along : (mesh width next left k : ℕ) → 0 < mesh → left ≡ first_before mesh width next → k < first_before mesh width (next + 1) - left
    → IsAlong mesh left (left + k) k
run-along mesh width next left k some e lt =
    let here = run-inside mesh width next (left + k) some (omega (arith, e)) (omega (arith, lt)) in
    let start = run-inside mesh width next left some (omega (arith, e)) (omega (arith, lt)) in
    let first : past_centre mesh left ≡ pixel_centre left + mesh - next * (2 * mesh) = start.1 in
    let there : past_centre mesh (left + k) ≡ pixel_centre (left + k) + mesh - next * (2 * mesh) = here.1 in
    let inside : next * mesh ≤ left + (mesh + 1) / 2 = omega (arith, e, lt) in
    let half : (mesh + 1) / 2 * 2 + (mesh + 1) % 2 ≡ mesh + 1 = div-add-mod' (mesh + 1) 2 in
    let double : next * (2 * mesh) ≡ 2 * (next * mesh) = omega arith in
    let on : past_centre mesh (left + k) ≡ past_centre mesh left + k * 2 = omega (arith, first, there, inside, half, double) in
    let below : past_centre mesh (left + k) < 2 * mesh = past-below mesh (left + k) some in
    record { same = here.0 ∙ sym start.0; on = on; few = omega (arith, on, below) }

-- what the code has at the first pixel of a run
pub record IsRun (values : List ℤ) (columns rows mesh y left : ℕ) (level step : Mixed) : Type 0 where
  pub level_is : in_parts (2 * mesh * (2 * mesh)) level
      ≡ part_way (2 * mesh) (past_centre mesh left) (down_column values columns rows mesh y (cell_before columns mesh left))
      (down_column values columns rows mesh y (cell_after columns mesh left))
  pub step_is : in_parts (2 * mesh * (2 * mesh)) step
      ≡ pos 2 *ℤ (down_column values columns rows mesh y (cell_after columns mesh left) -ℤ down_column values columns rows mesh y
      (cell_before columns mesh left))

pub run-level : (values : List ℤ) (columns rows mesh y left x k : ℕ) (level step : Mixed) → IsRun values columns rows mesh y left level step
    → IsAlong mesh left x k
    → steps_on (2 * mesh * (2 * mesh)) level step k ≡ interpolated values columns rows mesh x y
unfolding interpolated
run-level values columns rows mesh y left x k level step h a =
    let parts : ℕ = 2 * mesh * (2 * mesh) in
    let down : ℕ → ℤ = λ n. down_column values columns rows mesh y n in
    (λ i. int_div_euclid (h.level_is i +ℤ pos k *ℤ h.step_is i) (pos parts))
    ∙ ap (λ (z : ℤ). int_div_euclid z (pos parts)) (sym
    (way-rises (2 * mesh) (past_centre mesh left) k (down (cell_before columns mesh left)) (down (cell_after columns mesh left)) _ a.few refl))
    ∙ (λ i. int_div_euclid (part_way (2 * mesh) (sym a.on i) (down (min (sym a.same i - 1) (columns - 1))) (down (min (sym a.same i) (columns - 1))))
    (pos parts))

-- from what the code computes
pub run-is : (values : List ℤ) (columns rows mesh y left a b p c d q : ℕ) (first second : ℤ) (level step : Mixed) → IsPlaced columns mesh left a b p
    → IsPlaced rows mesh y c d q
    → first ≡ part_way (2 * mesh) q (number_in_grid values columns a c) (number_in_grid values columns a d)
    → second ≡ part_way (2 * mesh) q (number_in_grid values columns b c) (number_in_grid values columns b d)
    → in_parts (2 * mesh * (2 * mesh)) level ≡ part_way (2 * mesh) p first second → in_parts (2 * mesh * (2 * mesh)) step ≡ pos 2 *ℤ (second -ℤ first)
    → IsRun values columns rows mesh y left level step
run-is values columns rows mesh y left a b p c d q first second level step h k one two e f = record {
  level_is = e ∙ (λ i. part_way (2 * mesh) (h.past_is i) (before i) (after i));
  step_is = f ∙ (λ i. pos 2 *ℤ (after i -ℤ before i));
}
  where
    before : first ≡ down_column values columns rows mesh y (cell_before columns mesh left)
    before =
        one ∙ (λ i. part_way (2 * mesh) (k.past_is i) (number_in_grid values columns (h.before_is i) (k.before_is i))
        (number_in_grid values columns (h.before_is i) (k.after_is i)))

    after : second ≡ down_column values columns rows mesh y (cell_after columns mesh left)
    after =
        two ∙ (λ i. part_way (2 * mesh) (k.past_is i) (number_in_grid values columns (h.after_is i) (k.before_is i))
        (number_in_grid values columns (h.after_is i) (k.after_is i)))

-- ---- the ends of a row

pub runs-rise : (mesh width next : ℕ) → first_before mesh width next ≤ first_before mesh width (next + 1)
runs-rise mesh width next = let more : (next + 1) * mesh ≡ next * mesh + mesh = omega arith in omega (arith, more)

-- ---- mixed numbers, as the code computes them

pub small-up_to : (z : ℤ) → IsSmallStep z → IsUpTo (2 ^ 60) z
small-up_to z h = record { low = h.low; high = h.high }

scaled-up_to : (parts : ℕ) (z : ℤ) → IsSmallTimes parts z → IsUpTo (parts * 2 ^ 60) z
scaled-up_to parts z h = record { low = h.low; high = h.high }

-- a quotient that was computed, and the number of parts that is left
pub record IsDivided (parts : ℕ) (z q : ℤ) : Type 0 where
  pub floor : IsFloor z parts q
  pub small : IsSmallStep q

pub divided : (parts : ℕ) (z unit q : ℤ) → 0 < parts → parts ≤ 2 ^ 60 → IsSmallTimes parts z → unit ≡ pos parts
    → q ≡ int_div_euclid (kept w128 z) (kept w128 unit) → IsDivided parts z q
divided parts z unit q some few h e is =
    record {
      floor = floor;
      small = record {
        low = floor-from z parts q (neg_ℤ (pos (2 ^ 60))) floor (up_to-low parts (2 ^ 60) z up);
        high = floor-up_to z parts q (pos (2 ^ 60)) some floor (up_to-high parts (2 ^ 60) z up);
      };
    }
  where
    up : IsUpTo (parts * 2 ^ 60) z
    up = scaled-up_to parts z h

    same : q ≡ int_div_euclid z (pos parts)
    same = is ∙ ap (λ (y : ℤ). int_div_euclid y (kept w128 unit)) (to_z-of_z w128 z (up_to-fits w128 (parts * 2 ^ 60) z (omega (arith, few)) up))
        ∙ ap (λ (y : ℤ). int_div_euclid z (kept w128 y)) e
        ∙ ap (λ (y : ℤ). int_div_euclid z y) (to_z-of_z w128 (pos parts)
        (up_to-fits w128 parts (pos parts) (omega (arith, few)) (up_to-pos parts parts (omega arith))))

    floor : IsFloor z parts q
    floor = subst (λ (y : ℤ). IsFloor z parts y) (sym same) (floor-is z parts some)

-- what is left
pub record IsLeft (parts : ℕ) (z q : ℤ) (left : ℤ) : Type 0 where
  pub count : ℕ
  pub is : left ≡ pos count
  pub few : count < parts
  pub whole : pos parts *ℤ q +ℤ pos count ≡ z

natural : (parts : ℕ) (z q y : ℤ) → y ≡ z -ℤ pos parts *ℤ q → IsFloor z parts q → IsLeft parts z q y
natural parts z q (pos n) e h =
    let low : _ = h.low in
    let high : _ = h.high in
    record { count = n; is = refl; few = omega (arith, ints, e, low, high); whole = omega (arith, ints, e) }
natural parts z q (negsuc n) e h = let low : _ = h.low in absurd (omega (arith, ints, e, low))

left-computed : (parts : ℕ) (z unit q : ℤ) → parts ≤ 2 ^ 60 → IsSmallTimes parts z → unit ≡ pos parts → IsDivided parts z q
    → (kept w128 z -ℤ kept w128 (kept w128 unit *ℤ kept w128 q) ≡ z -ℤ pos parts *ℤ q) × IsUpTo parts (z -ℤ pos parts *ℤ q)
left-computed parts z unit q few h e d =
    let up : IsUpTo (parts * 2 ^ 60) z = scaled-up_to parts z h in
    let product : kept w128 (kept w128 unit *ℤ kept w128 q) ≡ pos parts *ℤ q =
    ap (λ (y : ℤ). kept w128 (kept w128 y *ℤ kept w128 q)) e
    ∙ product-kept w128 parts parts (2 ^ 60) q (omega arith) (small-up_to q d.small) (omega (arith, few)) (omega arith) (omega (arith, few)) in
    let low : _ = d.floor.low in
    let high : _ = d.floor.high in (
      (λ i. to_z-of_z w128 z (up_to-fits w128 (parts * 2 ^ 60) z (omega (arith, few)) up) i -ℤ product i),
      record { low = omega (arith, ints, low); high = omega (arith, ints, high) },
    )

pub left-of : (parts : ℕ) (z unit q : ℤ) → 0 < parts → parts ≤ 2 ^ 60 → IsSmallTimes parts z → unit ≡ pos parts → IsDivided parts z q
    → IsLeft parts z q (kept w128 (kept w128 z -ℤ kept w128 (kept w128 unit *ℤ kept w128 q)))
left-of parts z unit q some few h e d = natural parts z q _ is d.floor
  where
    left : (kept w128 z -ℤ kept w128 (kept w128 unit *ℤ kept w128 q) ≡ z -ℤ pos parts *ℤ q) × IsUpTo parts (z -ℤ pos parts *ℤ q)
    left = left-computed parts z unit q few h e d

    is : kept w128 (kept w128 z -ℤ kept w128 (kept w128 unit *ℤ kept w128 q)) ≡ z -ℤ pos parts *ℤ q
    is = ap (kept w128) left.0 ∙ to_z-of_z w128 (z -ℤ pos parts *ℤ q) (up_to-fits w128 parts (z -ℤ pos parts *ℤ q) (omega (arith, few)) left.1)

-- the difference, the product and the quotient fit
pub left-fits : (parts : ℕ) (z unit q : ℤ) → parts ≤ 2 ^ 60 → IsSmallTimes parts z → unit ≡ pos parts → IsDivided parts z q
    → SFits w128 (kept w128 z -ℤ kept w128 (kept w128 unit *ℤ kept w128 q))
left-fits parts z unit q few h e d =
    let left = left-computed parts z unit q few h e d in
    subst (λ (y : ℤ). SFits w128 y) (sym left.0) (up_to-fits w128 parts (z -ℤ pos parts *ℤ q) (omega (arith, few)) left.1)

pub whole-fits : (parts : ℕ) (unit q : ℤ) → parts ≤ 2 ^ 60 → unit ≡ pos parts → IsSmallStep q → SFits w128 (kept w128 unit *ℤ kept w128 q)
whole-fits parts unit q few e h =
    product-fits w128 parts parts (2 ^ 60) unit q q e refl (omega arith) (small-up_to q h) (omega (arith, few)) (omega arith) (omega (arith, few))

pub small-fits : (q : ℤ) → IsSmallStep q → SFits w64 (kept w128 q)
small-fits q h =
    subst (λ (y : ℤ). SFits w64 y) (sym (to_z-of_z w128 q (up_to-fits w128 (2 ^ 60) q (omega arith) (small-up_to q h))))
    (up_to-fits w64 (2 ^ 60) q (omega arith) (small-up_to q h))

-- a small quotient, as it is kept
pub small-kept : (q : ℤ) → IsSmallStep q → kept w64 (kept w128 q) ≡ q
small-kept q h =
    ap (kept w64) (to_z-of_z w128 q (up_to-fits w128 (2 ^ 60) q (omega arith) (small-up_to q h)))
    ∙ to_z-of_z w64 q (up_to-fits w64 (2 ^ 60) q (omega arith) (small-up_to q h))

-- ---- sums of mixed numbers

sum-kept : (a b : ℤ) → IsInHalfRange a → IsSmallStep b → kept w64 (kept w64 a +ℤ kept w64 b) ≡ a +ℤ b
sum-kept a b h k =
    let al : _ = h.low in
    let ah : _ = h.high in
    let bl : _ = k.low in
    let bh : _ = k.high in
    let up : IsUpTo (2 ^ 61) (a +ℤ b) = record { low = omega (arith, ints, al, bl); high = omega (arith, ints, ah, bh) } in
    (λ i. kept w64 (to_z-of_z w64 a (up_to-fits w64 (2 ^ 36) a (omega arith) (half-up_to a h)) i +ℤ to_z-of_z w64 b
    (up_to-fits w64 (2 ^ 60) b (omega arith) (small-up_to b k)) i))
    ∙ to_z-of_z w64 (a +ℤ b) (up_to-fits w64 (2 ^ 61) (a +ℤ b) (omega arith) up)

pub sum-below : (parts m n : ℕ) (a b : ℤ) → IsInHalfRange a → IsSmallStep b
    → pos parts *ℤ kept w64 (kept w64 a +ℤ kept w64 b) +ℤ pos (m + n) ≡ (pos parts *ℤ a +ℤ pos m) +ℤ (pos parts *ℤ b +ℤ pos n)
sum-below parts m n a b h k =
    let e : pos parts *ℤ (a +ℤ b) ≡ pos parts *ℤ a +ℤ pos parts *ℤ b = times-sum parts a b in
    ap (λ (z : ℤ). pos parts *ℤ z +ℤ pos (m + n)) (sum-kept a b h k) ∙ omega (arith, ints, e)

pub sum-above : (parts m n : ℕ) (a b : ℤ) → IsInHalfRange a → IsSmallStep b → parts ≤ m + n
    → pos parts *ℤ kept w64 (kept w64 (kept w64 a +ℤ kept w64 b) +ℤ pos 1) +ℤ pos (m + n - parts) ≡ (pos parts *ℤ a +ℤ pos m) +ℤ (pos parts *ℤ b +ℤ pos n)
sum-above parts m n a b h k le =
    let al : _ = h.low in
    let ah : _ = h.high in
    let bl : _ = k.low in
    let bh : _ = k.high in
    let up : IsUpTo (2 ^ 61) (a +ℤ b +ℤ pos 1) = record { low = omega (arith, ints, al, bl); high = omega (arith, ints, ah, bh) } in
    let e : pos parts *ℤ (a +ℤ b) ≡ pos parts *ℤ a +ℤ pos parts *ℤ b = times-sum parts a b in
    let f : pos parts *ℤ (a +ℤ b +ℤ pos 1) ≡ pos parts *ℤ (a +ℤ b) +ℤ pos parts *ℤ pos 1 = times-sum parts (a +ℤ b) (pos 1) in
    let g : pos parts *ℤ pos 1 ≡ pos (parts * 1) = pos-*ℤ-pos parts 1 in
    ap (λ (z : ℤ). pos parts *ℤ kept w64 (z +ℤ pos 1) +ℤ pos (m + n - parts)) (sum-kept a b h k)
    ∙ ap (λ (z : ℤ). pos parts *ℤ z +ℤ pos (m + n - parts)) (to_z-of_z w64 (a +ℤ b +ℤ pos 1) (up_to-fits w64 (2 ^ 61) (a +ℤ b +ℤ pos 1) (omega arith) up))
    ∙ omega (arith, ints, e, f, g, le)

pub no-steps : (z s : ℤ) (k : ℕ) → k ≡ 0 → z ≡ z +ℤ pos k *ℤ s
no-steps z s k e =
    let none : pos 0 *ℤ s ≡ pos 0 = zero-*ℤ s in
    let same : z ≡ z +ℤ pos 0 *ℤ s = omega (arith, ints, none) in
    same ∙ ap (λ (n : ℕ). z +ℤ pos n *ℤ s) (sym e)
