-- Model: counts of pixels.
use Rattle.std.specs.Prelude.{ℕ, zero, suc, Bool, cond, is_some, ◌+◌, List, Option, ℤ}
use Rattle.comp_tree.specs.Raster.{value_at}

-- how many numbers below n pass the test
abbrev pub count_below : (ℕ → Bool) → ℕ → ℕ
count_below t zero = 0
count_below t (suc n) = count_below t n + cond (t n) 1 0

-- the sum of f over the numbers below n
abbrev pub sum_below : (ℕ → ℕ) → ℕ → ℕ
sum_below f zero = 0
sum_below f (suc n) = sum_below f n + f n

-- how many of the count pixels from first on are defined
abbrev pub count_defined : List (Option ℤ) → ℕ → ℕ → ℕ
count_defined values first count = count_below (λ k. is_some (value_at values (first + k))) count
