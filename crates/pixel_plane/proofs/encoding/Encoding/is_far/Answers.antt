use Rattle.std.proofs.Common.{◌≡◌, arith, ℤ, ◌-ℤ◌, w64, to_z, of_z, false}
use Rattle.std.specs.Prelude.{int_lt}
use Rattle.std.proofs.lemmas.Int.{ints}
use Rattle.pixel_plane.proofs.Bounds.{high_test, not_below}
use Rattle.pixel_plane.proofs.encoding.Encoding.is_far.Goals as goal

pub returns-else-stored-self : goal.returns-else-stored-self
returns-else-stored-self c =
    let limits = c.args.self.now.limits in
    let zero : ℤ = c.args.self.now.zero in
    let stored : ℤ = c.args.stored in
    let least : ℤ = limits.least in
    let greatest : ℤ = limits.greatest in
    let one = limits.range.least_low in
    let two = limits.range.greatest_high in
    let three = limits.range.least_high in
    let four = limits.range.greatest_low in
    let a : to_z w64 (of_z w64 zero) ≡ zero = omega (arith, ints) in
    let b : to_z w64 (of_z w64 stored) ≡ stored = omega (arith, ints) in
    let l : to_z w64 (of_z w64 least) ≡ least = omega (arith, ints) in
    let g : to_z w64 (of_z w64 greatest) ≡ greatest = omega (arith, ints) in
    let high : to_z w64 (of_z w64 (greatest -ℤ zero)) ≡ greatest -ℤ zero = omega (arith, ints) in
    let low : to_z w64 (of_z w64 (least -ℤ zero)) ≡ least -ℤ zero = omega (arith, ints) in
    let above : int_lt stored (least -ℤ zero) ≡ false = rw (a, b, l, low) at c.if-stored-self.false in
    rw (a, b, g, high) (high_test limits zero stored (not_below _ _ above))
