use Rattle.std.proofs.Common.{◌≡◌, ℕ, ℤ, pos, ◌*◌, ◌<◌, ◌≤◌, ◌^◌, sym, ap, subst, ◌∙◌, arith}
use Rattle.std.specs.Prelude.{◌-ℤ◌, ◌*ℤ◌}
use Rattle.std.proofs.lemmas.Int.{ints, to_z-of_z}
use Rattle.std.proofs.lemmas.Nat.{mul-le}
use mir.Syntax.{w64, w128}
use mir.Val.{SFits}
use Rattle.mesh_background.specs.Lessened.{IsHalfRangeTimes}
use Rattle.mesh_background.specs.Slopes.{in_parts, IsSmallTimes}
use Rattle.mesh_background.proofs.Fitting.{IsUpTo, up_to-fits, up_to-times, kept}
use Rattle.mesh_background.proofs.Levels.{times-up_to}
use Rattle.mesh_background.proofs.interpolation.step_between.Goals as goal

-- the two numbers, of which b and a are kept
record IsGiven (mesh : ℕ) (p q b a : ℤ) : Type 0 where
  some : 0 < mesh
  few : mesh ≤ 65535
  first : IsHalfRangeTimes (2 * mesh) p
  second : IsHalfRangeTimes (2 * mesh) q
  first_is : b ≡ p
  second_is : a ≡ q

number-fits : (mesh : ℕ) (z : ℤ) → mesh ≤ 65535 → IsHalfRangeTimes (2 * mesh) z → SFits w128 z
number-fits mesh z few h = up_to-fits w128 (2 * mesh * 2 ^ 36) z (omega (arith, few)) (times-up_to (2 * mesh) z h)

step-up_to : (mesh : ℕ) (p q b a : ℤ) → IsGiven mesh p q b a → IsUpTo (mesh * 2 ^ 38) (q -ℤ p)
step-up_to mesh p q b a h =
    let pl : _ = h.first.low in
    let ph : _ = h.first.high in
    let ql : _ = h.second.low in
    let qh : _ = h.second.high in
    record { low = omega (arith, ints, ph, ql); high = omega (arith, ints, pl, qh) }

step-is : (mesh : ℕ) (p q b a : ℤ) → IsGiven mesh p q b a → kept w128 a -ℤ kept w128 b ≡ q -ℤ p
step-is mesh p q b a h =
    (λ i. kept w128 (h.second_is i) -ℤ kept w128 (h.first_is i))
    ∙ (λ i. to_z-of_z w128 q (number-fits mesh q h.few h.second) i -ℤ to_z-of_z w128 p (number-fits mesh p h.few h.first) i)

rise-fits : (mesh : ℕ) (p q b a : ℤ) → IsGiven mesh p q b a → SFits w128 (q -ℤ p)
rise-fits mesh p q b a h = let few : mesh ≤ 65535 = h.few in up_to-fits w128 (mesh * 2 ^ 38) (q -ℤ p) (omega (arith, few)) (step-up_to mesh p q b a h)

twice-up_to : (mesh : ℕ) (p q b a : ℤ) → IsGiven mesh p q b a → IsUpTo (2 * (mesh * 2 ^ 38)) (pos 2 *ℤ (q -ℤ p))
twice-up_to mesh p q b a h = up_to-times 2 (mesh * 2 ^ 38) (q -ℤ p) (step-up_to mesh p q b a h)

twice-fits : (mesh : ℕ) (p q b a : ℤ) → IsGiven mesh p q b a → SFits w128 (pos 2 *ℤ (q -ℤ p))
twice-fits mesh p q b a h =
    let few : mesh ≤ 65535 = h.few in
    up_to-fits w128 (2 * (mesh * 2 ^ 38)) (pos 2 *ℤ (q -ℤ p)) (omega (arith, few)) (twice-up_to mesh p q b a h)

product-is : (mesh : ℕ) (p q b a : ℤ) → IsGiven mesh p q b a → pos 2 *ℤ kept w128 (kept w128 a -ℤ kept w128 b) ≡ pos 2 *ℤ (q -ℤ p)
product-is mesh p q b a h =
    ap (λ (z : ℤ). pos 2 *ℤ z) (ap (kept w128) (step-is mesh p q b a h) ∙ to_z-of_z w128 (q -ℤ p) (rise-fits mesh p q b a h))

twice-is : (mesh : ℕ) (p q b a : ℤ) → IsGiven mesh p q b a → kept w128 (pos 2 *ℤ kept w128 (kept w128 a -ℤ kept w128 b)) ≡ pos 2 *ℤ (q -ℤ p)
twice-is mesh p q b a h =
    ap (kept w128) (product-is mesh p q b a h) ∙ to_z-of_z w128 (pos 2 *ℤ (q -ℤ p)) (twice-fits mesh p q b a h)

twice-small : (mesh parts : ℕ) (p q b a : ℤ) → parts ≡ 2 * mesh * (2 * mesh) → IsGiven mesh p q b a
    → IsSmallTimes parts (kept w128 (pos 2 *ℤ kept w128 (kept w128 a -ℤ kept w128 b)))
twice-small mesh parts p q b a e h =
    let some : 0 < mesh = h.some in
    let more : 2 * mesh * 1 ≤ 2 * mesh * (2 * mesh) = mul-le (2 * mesh) 1 (2 * mesh) (2 * mesh) (omega arith) (omega (arith, some)) in
    let up : IsUpTo (2 * (mesh * 2 ^ 38)) (pos 2 *ℤ (q -ℤ p)) = twice-up_to mesh p q b a h in
    let enough : 2 * (mesh * 2 ^ 38) ≤ parts * 2 ^ 60 = omega (arith, more, e) in
    let low : _ = up.low in
    let high : _ = up.high in
    subst (λ (z : ℤ). IsSmallTimes parts z) (sym (twice-is mesh p q b a h))
    (record { low = omega (arith, ints, low, enough); high = omega (arith, ints, high, enough) })

pub overflow_sub-from : goal.overflow_sub-from
overflow_sub-from c =
    let given : IsGiven c.args.mesh c.args.p c.args.q c.from-2.result c.from.result =
    record {
      some = c.requires.some;
      few = c.requires.few;
      first = c.requires.first;
      second = c.requires.second;
      first_is = c.from-2.ensures ∙ to_z-of_z w64 c.args.p c.ranges.p;
      second_is = c.from.ensures ∙ to_z-of_z w64 c.args.q c.ranges.q;
    } in
    subst (λ (z : ℤ). SFits w128 z) (sym (step-is c.args.mesh c.args.p c.args.q c.from-2.result c.from.result given))
    (rise-fits c.args.mesh c.args.p c.args.q c.from-2.result c.from.result given)

pub overflow_mul-from : goal.overflow_mul-from
overflow_mul-from c =
    let given : IsGiven c.args.mesh c.args.p c.args.q c.from-2.result c.from.result =
    record {
      some = c.requires.some;
      few = c.requires.few;
      first = c.requires.first;
      second = c.requires.second;
      first_is = c.from-2.ensures ∙ to_z-of_z w64 c.args.p c.ranges.p;
      second_is = c.from.ensures ∙ to_z-of_z w64 c.args.q c.ranges.q;
    } in
    subst (λ (z : ℤ). SFits w128 z) (sym (product-is c.args.mesh c.args.p c.args.q c.from-2.result c.from.result given))
    (twice-fits c.args.mesh c.args.p c.args.q c.from-2.result c.from.result given)

pub parts_of-requires-clause-some : goal.parts_of-requires-clause-some
parts_of-requires-clause-some c = c.requires.some

pub parts_of-requires-clause-few : goal.parts_of-requires-clause-few
parts_of-requires-clause-few c = c.requires.few

pub of-requires-clause-some : goal.of-requires-clause-some
of-requires-clause-some c = c.parts_of.ensures.some

pub of-requires-clause-few : goal.of-requires-clause-few
of-requires-clause-few c = c.parts_of.ensures.few

pub of-requires-clause-size : goal.of-requires-clause-size
of-requires-clause-size c =
    let given : IsGiven c.args.mesh c.args.p c.args.q c.from-2.result c.from.result =
    record {
      some = c.requires.some;
      few = c.requires.few;
      first = c.requires.first;
      second = c.requires.second;
      first_is = c.from-2.ensures ∙ to_z-of_z w64 c.args.p c.ranges.p;
      second_is = c.from.ensures ∙ to_z-of_z w64 c.args.q c.ranges.q;
    } in
    twice-small c.args.mesh c.parts_of.result c.args.p c.args.q c.from-2.result c.from.result c.parts_of.ensures.parts given

pub returns-clause-value : goal.returns-clause-value
returns-clause-value c =
    let given : IsGiven c.args.mesh c.args.p c.args.q c.from-2.result c.from.result =
    record {
      some = c.requires.some;
      few = c.requires.few;
      first = c.requires.first;
      second = c.requires.second;
      first_is = c.from-2.ensures ∙ to_z-of_z w64 c.args.p c.ranges.p;
      second_is = c.from.ensures ∙ to_z-of_z w64 c.args.q c.ranges.q;
    } in
    ap (λ (n : ℕ). in_parts n c.of.result) (sym c.parts_of.ensures.parts) ∙ c.of.ensures.value
    ∙ twice-is c.args.mesh c.args.p c.args.q c.from-2.result c.from.result given

pub returns-clause-rest : goal.returns-clause-rest
returns-clause-rest c = subst (λ (n : ℕ). c.of.result.rest < n) c.parts_of.ensures.parts c.of.ensures.rest

pub returns-clause-small : goal.returns-clause-small
returns-clause-small c = c.of.ensures.small
