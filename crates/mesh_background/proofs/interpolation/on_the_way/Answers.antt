use Rattle.std.proofs.Common.{◌≡◌, ℕ, ◌-◌, ◌*◌, ◌≤◌, ◌^◌, ℤ, pos, ◌+ℤ◌, ◌*ℤ◌, refl, sym, ap, subst, ◌∙◌, arith}
use Rattle.std.proofs.lemmas.Int.{to_z-of_z}
use mir.Syntax.{w64}
use mir.Val.{SFits}
use Rattle.comp_tree.specs.Limits.{IsInHalfRange}
use Rattle.mesh_background.specs.Interpolation.{part_way}
use Rattle.mesh_background.specs.Lessened.{IsHalfRangeTimes}
use Rattle.mesh_background.proofs.Fitting.{up_to-fits, up_to-way, kept, product-fits, way-computed}
use Rattle.mesh_background.proofs.Levels.{half-up_to, within-way}
use Rattle.mesh_background.proofs.interpolation.on_the_way.Goals as goal

way-fits : (whole part : ℕ) (p q : ℤ) → part ≤ whole → whole ≤ 131070 → IsInHalfRange p → IsInHalfRange q → SFits w64 (part_way whole part p q)
way-fits whole part p q le few a b =
    up_to-fits w64 (whole * 2 ^ 36) (part_way whole part p q) (omega arith) (up_to-way whole part (2 ^ 36) p q le (half-up_to p a) (half-up_to q b))

way-is : (whole part : ℕ) (m k p q : ℤ) → part ≤ whole → whole ≤ 131070 → IsInHalfRange p → IsInHalfRange q → m ≡ pos (whole - part) → k ≡ pos part
    → kept w64 (kept w64 m *ℤ kept w64 p) +ℤ kept w64 (kept w64 k *ℤ kept w64 q) ≡ part_way whole part p q
way-is whole part m k p q le few a b em ek =
    way-computed w64 whole part (2 ^ 36) m k p q p q em ek refl refl le (half-up_to p a) (half-up_to q b) (omega arith) (omega arith) (omega arith)

less : (whole part : ℕ) → whole - part ≤ whole
less whole part = omega arith

-- each of the two products
part-fits : (whole k : ℕ) (m p : ℤ) → m ≡ pos k → k ≤ whole → whole ≤ 131070 → IsInHalfRange p → SFits w64 (kept w64 m *ℤ kept w64 p)
part-fits whole k m p em le few h =
    product-fits w64 k whole (2 ^ 36) m p p em refl le (half-up_to p h) (omega (arith, few)) (omega arith) (omega (arith, few))

pub overflow_sub-whole : goal.overflow_sub-whole
overflow_sub-whole c = c.requires.part

pub overflow_mul-result : goal.overflow_mul-result
overflow_mul-result c =
    let whole : ℕ = c.args.whole in
    let part : ℕ = c.args.part in
    let le : whole - part ≤ whole = less whole part in
    part-fits whole (whole - part) c.from.result c.args.p c.from.ensures le c.requires.whole c.requires.first

pub overflow_mul-result-2 : goal.overflow_mul-result-2
overflow_mul-result-2 c = part-fits c.args.whole c.args.part c.from-2.result c.args.q c.from-2.ensures c.requires.part c.requires.whole c.requires.second

pub overflow_add-result : goal.overflow_add-result
overflow_add-result c =
    subst (λ (z : ℤ). SFits w64 z) (sym (way-is c.args.whole c.args.part c.from.result c.from-2.result c.args.p c.args.q c.requires.part c.requires.whole
    c.requires.first c.requires.second c.from.ensures c.from-2.ensures))
    (way-fits c.args.whole c.args.part c.args.p c.args.q c.requires.part c.requires.whole c.requires.first c.requires.second)

pub returns-clause-value : goal.returns-clause-value
returns-clause-value c =
    ap (kept w64) (way-is c.args.whole c.args.part c.from.result c.from-2.result c.args.p c.args.q c.requires.part c.requires.whole c.requires.first
    c.requires.second c.from.ensures c.from-2.ensures)
    ∙ to_z-of_z w64 (part_way c.args.whole c.args.part c.args.p c.args.q)
    (way-fits c.args.whole c.args.part c.args.p c.args.q c.requires.part c.requires.whole c.requires.first c.requires.second)

pub returns-clause-in_range : goal.returns-clause-in_range
returns-clause-in_range c =
    let value =
    ap (kept w64) (way-is c.args.whole c.args.part c.from.result c.from-2.result c.args.p c.args.q c.requires.part c.requires.whole c.requires.first
    c.requires.second c.from.ensures c.from-2.ensures)
    ∙ to_z-of_z w64 (part_way c.args.whole c.args.part c.args.p c.args.q)
    (way-fits c.args.whole c.args.part c.args.p c.args.q c.requires.part c.requires.whole c.requires.first c.requires.second) in
    subst (λ (z : ℤ). IsHalfRangeTimes c.args.whole z) (sym value)
    (within-way (2 ^ 36) c.args.whole c.args.part c.args.p c.args.q c.requires.part c.requires.first c.requires.second)
