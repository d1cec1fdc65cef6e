use Rattle.std.proofs.Common.{ℕ, ◌<◌, ◌≤◌, ◌^◌, ℤ, pos, ◌+ℤ◌, ◌*ℤ◌, T, Fits, sym, subst, ◌∙◌, arith}
use mir.Syntax.{w64}
use lib.Signed.{non_neg}
use lib.IntN.{nat_abs}
use Rattle.mesh_background.specs.Slopes.{IsSmallStep}
use Rattle.mesh_background.proofs.Slopes.{IsDivided, divided, IsLeft, left-of, left-fits, whole-fits, small-fits, small-kept}
use Rattle.mesh_background.proofs.slope.Mixed.of.Goals as goal

count-fits : (parts : ℕ) (z q y : ℤ) → parts ≤ 2 ^ 60 → IsLeft parts z q y → T (non_neg y) × Fits w64 (nat_abs y)
count-fits parts z q y few h =
    let lt : h.count < parts = h.few in
    subst (λ (x : ℤ). T (non_neg x) × Fits w64 (nat_abs x)) (sym h.is) (tt, record { fits = omega (arith, lt, few) })

pub overflow_cast-result-2 : goal.overflow_cast-result-2
overflow_cast-result-2 c =
    let d : IsDivided c.args.parts c.args.scaled c.div_euclid-floor.result =
    divided c.args.parts c.args.scaled c.from-unit.result c.div_euclid-floor.result c.requires.some c.requires.few c.requires.size c.from-unit.ensures
    c.div_euclid-floor.ensures in
    count-fits c.args.parts c.args.scaled c.div_euclid-floor.result _ c.requires.few
    (left-of c.args.parts c.args.scaled c.from-unit.result c.div_euclid-floor.result c.requires.some c.requires.few c.requires.size c.from-unit.ensures d)

pub returns-clause-value : goal.returns-clause-value
returns-clause-value c =
    let d : IsDivided c.args.parts c.args.scaled c.div_euclid-floor.result =
    divided c.args.parts c.args.scaled c.from-unit.result c.div_euclid-floor.result c.requires.some c.requires.few c.requires.size c.from-unit.ensures
    c.div_euclid-floor.ensures in
    let l =
    left-of c.args.parts c.args.scaled c.from-unit.result c.div_euclid-floor.result c.requires.some c.requires.few c.requires.size c.from-unit.ensures d in
    (λ i. pos c.args.parts *ℤ small-kept c.div_euclid-floor.result d.small i +ℤ pos (nat_abs (l.is i))) ∙ l.whole

pub returns-clause-small : goal.returns-clause-small
returns-clause-small c =
    let d : IsDivided c.args.parts c.args.scaled c.div_euclid-floor.result =
    divided c.args.parts c.args.scaled c.from-unit.result c.div_euclid-floor.result c.requires.some c.requires.few c.requires.size c.from-unit.ensures
    c.div_euclid-floor.ensures in
    subst (λ (z : ℤ). IsSmallStep z) (sym (small-kept c.div_euclid-floor.result d.small)) d.small

pub overflow_cast-result : goal.overflow_cast-result
overflow_cast-result c =
    let d : IsDivided c.args.parts c.args.scaled c.div_euclid-floor.result =
    divided c.args.parts c.args.scaled c.from-unit.result c.div_euclid-floor.result c.requires.some c.requires.few c.requires.size c.from-unit.ensures
    c.div_euclid-floor.ensures in
    small-fits c.div_euclid-floor.result d.small

pub overflow_mul-result : goal.overflow_mul-result
overflow_mul-result c =
    let d : IsDivided c.args.parts c.args.scaled c.div_euclid-floor.result =
    divided c.args.parts c.args.scaled c.from-unit.result c.div_euclid-floor.result c.requires.some c.requires.few c.requires.size c.from-unit.ensures
    c.div_euclid-floor.ensures in
    whole-fits c.args.parts c.from-unit.result c.div_euclid-floor.result c.requires.few c.from-unit.ensures d.small

pub overflow_sub-result : goal.overflow_sub-result
overflow_sub-result c =
    let d : IsDivided c.args.parts c.args.scaled c.div_euclid-floor.result =
    divided c.args.parts c.args.scaled c.from-unit.result c.div_euclid-floor.result c.requires.some c.requires.few c.requires.size c.from-unit.ensures
    c.div_euclid-floor.ensures in
    left-fits c.args.parts c.args.scaled c.from-unit.result c.div_euclid-floor.result c.requires.few c.requires.size c.from-unit.ensures d

pub returns-clause-rest : goal.returns-clause-rest
returns-clause-rest c =
    let d : IsDivided c.args.parts c.args.scaled c.div_euclid-floor.result =
    divided c.args.parts c.args.scaled c.from-unit.result c.div_euclid-floor.result c.requires.some c.requires.few c.requires.size c.from-unit.ensures
    c.div_euclid-floor.ensures in
    let l =
    left-of c.args.parts c.args.scaled c.from-unit.result c.div_euclid-floor.result c.requires.some c.requires.few c.requires.size c.from-unit.ensures d in
    subst (λ (y : ℤ). nat_abs y < c.args.parts) (sym l.is) l.few
