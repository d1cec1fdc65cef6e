-- Bookkeeping: how many pixels are earlier than one. A walk along links goes to ever fewer of them, so it ends.
use Rattle.std.specs.Prelude.{ℕ, ◌+◌, List, Option, ℤ}
use Rattle.comp_tree.specs.Raster.{value_at, is_before}
use Rattle.comp_tree.specs.Counts.{count_below}

-- how many of the count pixels from first on are earlier than p
abbrev pub earlier_count : List (Option ℤ) → ℕ → ℕ → ℕ → ℕ
earlier_count values first count p =
    count_below (λ k. is_before (value_at values (first + k)) (first + k) (value_at values p) p) count
