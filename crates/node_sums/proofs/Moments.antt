-- The products of a pixel's column, row and value fit their types.
use Rattle.std.proofs.Common.{ℕ, ◌*◌, ◌≤◌, Fits, arith}
use Rattle.std.specs.Prelude.{ℤ, pos, ◌*ℤ◌}
use Rattle.std.proofs.lemmas.Int.{to_z-of_z, to_z_pos}
use Rattle.std.proofs.Math.Nat.{mul-le-mul_left, mul-le-mul_right}
use mir.Syntax.{w64, w128}
use mir.Val.{SFits, of_z, to_z}

pub product_fits : (x y : ℕ) → x ≤ 65535 → y ≤ 65535 → Fits w64 (x * y)
product_fits x y h k =
    let one : x * y ≤ 65535 * y = mul-le-mul_right y h in
    let both : 65535 * y ≤ 65535 * 65535 = mul-le-mul_left 65535 k in
    omega (arith, one, both)

pub value_wide : (z : ℤ) → SFits w64 z → SFits w128 (to_z w64 (of_z w64 z))
value_wide z f = rw (to_z-of_z w64 z f) (record { sfits = omega (arith, f.sfits) })

pub place_wide : (x : ℕ) → x ≤ 65535 → SFits w128 (pos x)
place_wide x h = record { sfits = omega (arith, h) }

pub moment_wide : (z : ℤ) (x : ℕ) → SFits w64 z → x ≤ 65535 → SFits w128 (z *ℤ pos x)
    → SFits w128 (to_z w128 (of_z w128 (to_z w64 (of_z w64 z))) *ℤ to_z w128 x)
moment_wide z x f h g = rw (to_z-of_z w64 z f, to_z-of_z w128 z (record { sfits = omega (arith, f.sfits) }), to_z_pos w128 x (omega (arith, h))) g
