-- Bookkeeping: the lines of some nodes that follow each other.
use Rattle.std.specs.Prelude.{ℕ, ◌+◌, ◌-◌, ◌*◌, min, List, map}
use Rattle.std.specs.List.{concat, range_with_len}
use Rattle.comp_tree.specs.declared.tree.NodeRow.{NodeRow}
use Rattle.tree_products.specs.Lines.{line_at}

-- the lines of the nodes from `first` up to `end`, one behind the other
unfoldable pub lines_between : List NodeRow → List ℕ → ℕ → ℕ → List ℕ
lines_between rows areas first end = concat (map (line_at rows areas) (range_with_len first (end - first)))

-- those of the stretch with this number, from 0: stretches of `size` lines begin at `first`, and the last ends at `end`
abbrev pub lines_of_stretch : List NodeRow → List ℕ → ℕ → ℕ → ℕ → ℕ → List ℕ
lines_of_stretch rows areas first end size number = lines_between rows areas (first + number * size) (min (first + number * size + size) end)
