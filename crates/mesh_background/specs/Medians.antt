-- Model: the lower median of whole numbers, by counts of the members that are less than it and of those that are no greater.
use Rattle.std.specs.Prelude.{ℕ, ◌+◌, ◌-◌, ◌/◌, ◌<◌, ◌≤◌, Bool, ◌&&◌, nat_lt, nat_le, ℤ, int_lt, int_le, List, length, count_by, find, Option, Contains}

-- one more than half of the members that are left when one is taken away, where the half is rounded down
abbrev pub lower_half : List ℤ → ℕ
lower_half xs = (length xs - 1) / 2 + 1

-- how many members are below v, and how many are at most v
abbrev pub count_less : List ℤ → ℤ → ℕ
count_less xs v = count_by (λ x. int_lt x v) xs

abbrev pub count_up_to : List ℤ → ℤ → ℕ
count_up_to xs v = count_by (λ x. int_le x v) xs

-- v is the lower median: a member such that fewer members than the lower half are below it, and at least that many at most it
pub record IsLowerMedian (xs : List ℤ) (v : ℤ) : Type 0 where
  pub member : Contains xs v
  pub few_below : count_less xs v < lower_half xs
  pub enough : lower_half xs ≤ count_up_to xs v

-- the test of these counts
unfoldable pub splits_in_half : List ℤ → ℤ → Bool
splits_in_half xs v = nat_lt (count_less xs v) (lower_half xs) && nat_le (lower_half xs) (count_up_to xs v)

-- the lower median of a list, which has one unless it is empty: the first member that passes the test
unfoldable pub lower_median : List ℤ → Option ℤ
lower_median xs = find (splits_in_half xs) xs
