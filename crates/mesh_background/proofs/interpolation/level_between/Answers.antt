use Rattle.std.proofs.Common.{◌≡◌, ℕ, ◌-◌, ◌*◌, ◌<◌, ◌≤◌, ◌^◌, ℤ, pos, ◌+ℤ◌, ◌*ℤ◌, sym, ap, subst, ◌∙◌, arith}
use Rattle.std.proofs.lemmas.Int.{ints, to_z-of_z}
use Rattle.std.proofs.lemmas.Nat.{mul-le}
use Rattle.std.proofs.Math.Nat.{mul_assoc}
use mir.Syntax.{w64, w128}
use mir.Val.{SFits}
use Rattle.mesh_background.specs.Interpolation.{part_way}
use Rattle.mesh_background.specs.Lessened.{IsHalfRangeTimes}
use Rattle.mesh_background.specs.Slopes.{in_parts, IsSmallTimes}
use Rattle.mesh_background.proofs.Fitting.{IsUpTo, up_to-fits, up_to-way, kept, product-fits, way-computed}
use Rattle.mesh_background.proofs.Levels.{times-up_to}
use Rattle.mesh_background.proofs.interpolation.level_between.Goals as goal

few-squares : (whole : ℕ) → whole ≤ 131070 → (whole * whole ≤ 131070 * 131070) × (whole * (whole * 2 ^ 36) ≤ 131070 * (131070 * 2 ^ 36))
few-squares whole le = (mul-le whole whole 131070 131070 le le, mul-le whole (whole * 2 ^ 36) 131070 (131070 * 2 ^ 36) le (omega arith))

record IsGiven (whole part : ℕ) (p q : ℤ) : Type 0 where
  some : 0 < whole
  few : whole ≤ 131070
  part_of : part ≤ whole
  first : IsHalfRangeTimes whole p
  second : IsHalfRangeTimes whole q

scaled-fits : (whole part : ℕ) (p q : ℤ) → IsGiven whole part p q → SFits w128 (part_way whole part p q)
scaled-fits whole part p q h =
    let few : whole ≤ 131070 = h.few in
    let most = few-squares whole few in
    up_to-fits w128 (whole * (whole * 2 ^ 36)) (part_way whole part p q) (omega (arith, most.1))
    (up_to-way whole part (whole * 2 ^ 36) p q h.part_of (times-up_to whole p h.first) (times-up_to whole q h.second))

number-fits : (whole : ℕ) (p : ℤ) → whole ≤ 131070 → IsHalfRangeTimes whole p → SFits w64 p
number-fits whole p few h = up_to-fits w64 (whole * 2 ^ 36) p (omega arith) (times-up_to whole p h)

scaled-is : (whole part : ℕ) (m k p q first second : ℤ) → IsGiven whole part p q → m ≡ pos (whole - part) → k ≡ pos part → first ≡ kept w64 p
    → second ≡ kept w64 q
    → kept w128 (kept w128 m *ℤ kept w128 first) +ℤ kept w128 (kept w128 k *ℤ kept w128 second) ≡ part_way whole part p q
scaled-is whole part m k p q first second h em ek ep eq =
    let few : whole ≤ 131070 = h.few in
    let most = few-squares whole few in
    way-computed w128 whole part (whole * 2 ^ 36) m k p q first second em ek (ep ∙ to_z-of_z w64 p (number-fits whole p few h.first))
    (eq ∙ to_z-of_z w64 q (number-fits whole q few h.second))
    h.part_of (times-up_to whole p h.first) (times-up_to whole q h.second) (omega arith) (omega arith) (omega (arith, most.1))

scaled-small : (whole part : ℕ) (p q : ℤ) → IsGiven whole part p q → IsSmallTimes (whole * whole) (part_way whole part p q)
scaled-small whole part p q h =
    let up : IsUpTo (whole * (whole * 2 ^ 36)) (part_way whole part p q) =
    up_to-way whole part (whole * 2 ^ 36) p q h.part_of (times-up_to whole p h.first) (times-up_to whole q h.second) in
    let same : whole * (whole * 2 ^ 36) ≡ whole * whole * 2 ^ 36 = sym (mul_assoc whole whole (2 ^ 36)) in
    let low : _ = up.low in
    let high : _ = up.high in
    record { low = omega (arith, ints, low, same); high = omega (arith, ints, high, same) }

small-same : (parts n : ℕ) (z y : ℤ) → n ≡ parts → y ≡ z → IsSmallTimes parts z → IsSmallTimes n y
small-same parts n z y e f h = subst (λ (m : ℕ). IsSmallTimes m y) (sym e) (subst (λ (x : ℤ). IsSmallTimes parts x) (sym f) h)

-- each of the two products
product-is-few : (whole k : ℕ) (m p first : ℤ) → m ≡ pos k → first ≡ kept w64 p → k ≤ whole → whole ≤ 131070 → IsHalfRangeTimes whole p
    → SFits w128 (kept w128 m *ℤ kept w128 first)
product-is-few whole k m p first em ep le few h =
    let most = few-squares whole few in
    product-fits w128 k whole (whole * 2 ^ 36) m p first em (ep ∙ to_z-of_z w64 p (number-fits whole p few h)) le (times-up_to whole p h)
    (omega (arith, few)) (omega (arith, few)) (omega (arith, most.1))

less : (whole part : ℕ) → whole - part ≤ whole
less whole part = omega arith

double : (mesh : ℕ) → mesh ≤ 65535 → 2 * mesh ≤ 131070
double mesh few = omega (arith, few)

pub overflow_mul-mesh : goal.overflow_mul-mesh
overflow_mul-mesh c = omega (arith, double c.args.mesh c.requires.few)

pub overflow_sub-mesh : goal.overflow_sub-mesh
overflow_sub-mesh c = c.requires.part

pub overflow_mul-scaled : goal.overflow_mul-scaled
overflow_mul-scaled c =
    let whole : ℕ = 2 * c.args.mesh in
    product-is-few whole (whole - c.args.part) c.from.result c.args.p c.from-2.result c.from.ensures c.from-2.ensures (less whole c.args.part)
    (double c.args.mesh c.requires.few) c.requires.first

pub overflow_mul-scaled-2 : goal.overflow_mul-scaled-2
overflow_mul-scaled-2 c =
    product-is-few (2 * c.args.mesh) c.args.part c.from-3.result c.args.q c.from-4.result c.from-3.ensures c.from-4.ensures c.requires.part
    (double c.args.mesh c.requires.few) c.requires.second

pub parts_of-requires-clause-some : goal.parts_of-requires-clause-some
parts_of-requires-clause-some c = c.requires.some

pub parts_of-requires-clause-few : goal.parts_of-requires-clause-few
parts_of-requires-clause-few c = c.requires.few

pub of-requires-clause-some : goal.of-requires-clause-some
of-requires-clause-some c = c.parts_of.ensures.some

pub of-requires-clause-few : goal.of-requires-clause-few
of-requires-clause-few c = c.parts_of.ensures.few

pub returns-clause-rest : goal.returns-clause-rest
returns-clause-rest c = subst (λ (n : ℕ). c.of.result.rest < n) c.parts_of.ensures.parts c.of.ensures.rest

pub overflow_add-scaled : goal.overflow_add-scaled
overflow_add-scaled c =
    let given : IsGiven (2 * c.args.mesh) c.args.part c.args.p c.args.q =
    record {
      some = omega (arith, c.requires.some);
      few = double c.args.mesh c.requires.few;
      part_of = c.requires.part;
      first = c.requires.first;
      second = c.requires.second;
    } in
    subst (λ (z : ℤ). SFits w128 z)
    (sym (scaled-is (2 * c.args.mesh) c.args.part c.from.result c.from-3.result c.args.p c.args.q c.from-2.result c.from-4.result given c.from.ensures
    c.from-3.ensures c.from-2.ensures c.from-4.ensures))
    (scaled-fits (2 * c.args.mesh) c.args.part c.args.p c.args.q given)

pub of-requires-clause-size : goal.of-requires-clause-size
of-requires-clause-size c =
    let given : IsGiven (2 * c.args.mesh) c.args.part c.args.p c.args.q =
    record {
      some = omega (arith, c.requires.some);
      few = double c.args.mesh c.requires.few;
      part_of = c.requires.part;
      first = c.requires.first;
      second = c.requires.second;
    } in
    let is =
    ap (kept w128) (scaled-is (2 * c.args.mesh) c.args.part c.from.result c.from-3.result c.args.p c.args.q c.from-2.result c.from-4.result given c.from.ensures
    c.from-3.ensures c.from-2.ensures c.from-4.ensures)
    ∙ to_z-of_z w128 (part_way (2 * c.args.mesh) c.args.part c.args.p c.args.q) (scaled-fits (2 * c.args.mesh) c.args.part c.args.p c.args.q given) in
    small-same (2 * c.args.mesh * (2 * c.args.mesh)) c.parts_of.result (part_way (2 * c.args.mesh) c.args.part c.args.p c.args.q) _ c.parts_of.ensures.parts is
    (scaled-small (2 * c.args.mesh) c.args.part c.args.p c.args.q given)

pub returns-clause-value : goal.returns-clause-value
returns-clause-value c =
    let given : IsGiven (2 * c.args.mesh) c.args.part c.args.p c.args.q =
    record {
      some = omega (arith, c.requires.some);
      few = double c.args.mesh c.requires.few;
      part_of = c.requires.part;
      first = c.requires.first;
      second = c.requires.second;
    } in
    ap (λ (n : ℕ). in_parts n c.of.result) (sym c.parts_of.ensures.parts) ∙ c.of.ensures.value
    ∙ ap (kept w128) (scaled-is (2 * c.args.mesh) c.args.part c.from.result c.from-3.result c.args.p c.args.q c.from-2.result c.from-4.result given
    c.from.ensures c.from-3.ensures c.from-2.ensures c.from-4.ensures)
    ∙ to_z-of_z w128 (part_way (2 * c.args.mesh) c.args.part c.args.p c.args.q) (scaled-fits (2 * c.args.mesh) c.args.part c.args.p c.args.q given)
