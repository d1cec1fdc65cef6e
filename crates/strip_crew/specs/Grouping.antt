-- Bookkeeping: how the strips of a cut are made into groups.
use Rattle.std.specs.Prelude.{ℕ, ◌+◌, ◌/◌, ◌%◌, min}

-- how many groups of so many strips there are among n, where the last may have fewer
abbrev pub groups_of : ℕ → ℕ → ℕ
groups_of size n = n / size + min 1 (n % size)
