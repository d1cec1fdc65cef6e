-- The limits of one image, as they are computed.
use Rattle.std.proofs.Common.{◌≡◌, ◌∙◌, ℕ, ◌≤◌, ◌^◌, ℤ, pos, neg_ℤ, ◌-ℤ◌, ◌≤ℤ◌, w64, to_z, of_z, arith}
use Rattle.std.specs.Int.{int_max, int_min}
use Rattle.std.proofs.lemmas.Int.{ints, clamps}

pub max_read : (least : ℤ) (bound : ℕ) (b r : ℤ) → b ≡ pos bound → bound ≤ 2 ^ 36 → neg_ℤ (pos (2 ^ 36)) ≤ℤ least → least ≤ℤ pos (2 ^ 36)
    → r ≡ int_max (to_z w64 (of_z w64 least)) (to_z w64 (of_z w64 (pos 0 -ℤ to_z w64 (of_z w64 b)))) → to_z w64 (of_z w64 r) ≡ int_max least (neg_ℤ (pos bound))
max_read least bound b r is few low high value =
    let l : to_z w64 (of_z w64 least) ≡ least = omega (arith, ints) in
    let m : to_z w64 (of_z w64 b) ≡ b = omega (arith, ints) in
    let n : to_z w64 (of_z w64 (pos 0 -ℤ to_z w64 (of_z w64 b))) ≡ neg_ℤ (pos bound) = rw m (omega (arith, ints, is)) in
    let v : r ≡ int_max least (neg_ℤ (pos bound)) = value ∙ (λ i. int_max (l i) (n i)) in
    let same : to_z w64 (of_z w64 r) ≡ r = omega (arith, ints, clamps) in
    same ∙ v

pub min_read : (greatest : ℤ) (bound : ℕ) (b r : ℤ) → b ≡ pos bound → bound ≤ 2 ^ 36 → neg_ℤ (pos (2 ^ 36)) ≤ℤ greatest → greatest ≤ℤ pos (2 ^ 36)
    → r ≡ int_min (to_z w64 (of_z w64 greatest)) (to_z w64 (of_z w64 b)) → to_z w64 (of_z w64 r) ≡ int_min greatest (pos bound)
min_read greatest bound b r is few low high value =
    let g : to_z w64 (of_z w64 greatest) ≡ greatest = omega (arith, ints) in
    let m : to_z w64 (of_z w64 b) ≡ pos bound = rw is (omega (arith, ints)) in
    let v : r ≡ int_min greatest (pos bound) = value ∙ (λ i. int_min (g i) (m i)) in
    let same : to_z w64 (of_z w64 r) ≡ r = omega (arith, ints, clamps) in
    same ∙ v
