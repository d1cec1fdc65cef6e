-- Bookkeeping: the columns of the next row in which a pixel may have neighbours.
use Rattle.std.specs.Prelude.{ℕ, ◌+◌, ◌-◌, min}
use Rattle.comp_tree.specs.declared.shape.Connect.{Connect}
use Rattle.comp_tree.specs.declared.shape.Connect.TheVariants.{Four, Eight}

-- the first column in which a pixel of column x has neighbours in the next row, and the one after the last
abbrev pub first_column : Connect → ℕ → ℕ
first_column Four x = x
first_column Eight x = x - 1

abbrev pub end_column : Connect → ℕ → ℕ → ℕ
end_column Four width x = x + 1
end_column Eight width x = min (x + 2) width
