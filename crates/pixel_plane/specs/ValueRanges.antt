-- Bookkeeping: the ranges of values to which images can be held. They do not mention the types of `src/`, so that a ghost field can cite them.
use Rattle.std.specs.Prelude.{ℕ, ℤ, pos, neg_ℤ, ◌≤◌, ◌≤ℤ◌, ◌^◌}
use Rattle.std.specs.Int.{int_max, int_min}
use Rattle.std.proofs.Common.{arith}
use Rattle.std.proofs.lemmas.Int.{ints, clamps}
use Rattle.comp_tree.specs.Limits.{half_bound}
use Rattle.comp_tree.proofs.Exported.{half_most}

-- The least and the greatest value are within half of the range that planes hold, so that the difference of two values between them is in that range.
pub record IsRangeOfValues (least greatest : ℤ) : Type 0 where
  pub least_low : neg_ℤ (pos (2 ^ 36)) ≤ℤ least
  pub least_high : least ≤ℤ pos (2 ^ 36)
  pub greatest_low : neg_ℤ (pos (2 ^ 36)) ≤ℤ greatest
  pub greatest_high : greatest ≤ℤ pos (2 ^ 36)

cut_range : (least greatest : ℤ) (bound : ℕ) → bound ≤ 2 ^ 36 → IsRangeOfValues least greatest
    → IsRangeOfValues (int_max least (neg_ℤ (pos bound))) (int_min greatest (pos bound))
cut_range least greatest bound few range =
    let one = range.least_low in
    let two = range.least_high in
    let three = range.greatest_low in
    let four = range.greatest_high in
    record {
      least_low = omega (arith, ints, clamps);
      least_high = omega (arith, ints, clamps);
      greatest_low = omega (arith, ints, clamps);
      greatest_high = omega (arith, ints, clamps);
    }

-- the same of a range that is cut to half of that of a plane with so many pixels
pub narrowed_range : (least greatest : ℤ) (count : ℕ) → IsRangeOfValues least greatest
    → IsRangeOfValues (int_max least (neg_ℤ (pos (half_bound count)))) (int_min greatest (pos (half_bound count)))
narrowed_range least greatest count range = cut_range least greatest (half_bound count) (half_most count) range
