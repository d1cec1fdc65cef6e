-- Numbers a part of the way between two others.
use Rattle.std.proofs.Common.{◌≡◌, ℕ, ◌+◌, ◌-◌, ◌≤◌, ap, ◌∙◌, arith}
use Rattle.std.specs.Prelude.{ℤ, pos, ◌+ℤ◌, ◌*ℤ◌, ◌≤ℤ◌}
use Rattle.std.proofs.lemmas.Int.{ints}
use Rattle.lemmas.proofs.Exported.{times-le, times-plus}
use Rattle.mesh_background.specs.Interpolation.{part_way}

pub way-from : (whole part : ℕ) (p q low : ℤ) → part ≤ whole → low ≤ℤ p → low ≤ℤ q → (pos whole *ℤ low) ≤ℤ part_way whole part p q
unfolding part_way
way-from whole part p q low le a b =
    let e : whole ≡ (whole - part) + part = omega arith in
    let sum : pos whole *ℤ low ≡ pos (whole - part) *ℤ low +ℤ pos part *ℤ low = ap (λ (n : ℕ). pos n *ℤ low) e ∙ times-plus (whole - part) part low in
    let first : _ = times-le (whole - part) low p a in
    let second : _ = times-le part low q b in
    omega (arith, ints, sum, first, second)

pub way-up_to : (whole part : ℕ) (p q high : ℤ) → part ≤ whole → p ≤ℤ high → q ≤ℤ high → part_way whole part p q ≤ℤ (pos whole *ℤ high)
unfolding part_way
way-up_to whole part p q high le a b =
    let e : whole ≡ (whole - part) + part = omega arith in
    let sum : pos whole *ℤ high ≡ pos (whole - part) *ℤ high +ℤ pos part *ℤ high = ap (λ (n : ℕ). pos n *ℤ high) e ∙ times-plus (whole - part) part high in
    let first : _ = times-le (whole - part) p high a in
    let second : _ = times-le part q high b in
    omega (arith, ints, sum, first, second)
