-- The value of a number of at most 32 bits: it is never out of range, where the limits hold all such.
use Rattle.std.proofs.Common.{◌≡◌, ◌^◌, ℤ, pos, neg_ℤ, ◌+ℤ◌, ◌≤ℤ◌, w64, to_z, of_z, true, arith}
use Rattle.std.specs.Prelude.{int_le}
use Rattle.std.proofs.lemmas.Bool.{and_parts}
use Rattle.std.proofs.lemmas.Int.{ints}
use Rattle.comp_tree.proofs.Exported.{int_le-true}
use Rattle.pixel_plane.specs.declared.limits.Limits.{Limits}
use Rattle.pixel_plane.specs.WithinLimits.{IsInRange}
use Rattle.pixel_plane.specs.Stored.{holds_narrow}

-- from -2 ^ 32 to 2 ^ 32
pub record IsNear (v : ℤ) : Type 0 where
  pub low : neg_ℤ (pos (2 ^ 32)) ≤ℤ v
  pub high : v ≤ℤ pos (2 ^ 32)

pub read_near : (v : ℤ) → IsNear v → to_z w64 (of_z w64 v) ≡ v
read_near v h = let low = h.low in let high = h.high in omega (arith, ints)

pub sum_in_range : (limits : Limits) (a b : ℤ) → holds_narrow limits ≡ true → IsNear a → IsNear b → IsInRange limits (a +ℤ b)
sum_in_range limits a b holds h k =
    let both = and_parts (int_le limits.least (neg_ℤ (pos (2 ^ 33)))) (int_le (pos (2 ^ 33)) limits.greatest) holds in
    let least = int_le-true limits.least (neg_ℤ (pos (2 ^ 33))) both.0 in
    let greatest = int_le-true (pos (2 ^ 33)) limits.greatest both.1 in
    let first = h.low in let second = k.low in let third = h.high in let fourth = k.high in
    record { low = omega (arith, ints); high = omega (arith, ints) }

pub sum_read : (a b : ℤ) → IsNear a → IsNear b → to_z w64 (of_z w64 (to_z w64 (of_z w64 a) +ℤ to_z w64 (of_z w64 b))) ≡ a +ℤ b
sum_read a b h k =
    let first = h.low in let second = k.low in let third = h.high in let fourth = k.high in
    rw (read_near a h, read_near b k) (let sum : to_z w64 (of_z w64 (a +ℤ b)) ≡ a +ℤ b = omega (arith, ints) in sum)
