-- Bookkeeping: marks on the pixels of a plane, while a component is being found.
use Rattle.std.specs.Prelude.{ℕ, Bool, false, IsTrue, IsFalse, List, filter, ℤ, slice_index_or}
use Rattle.std.specs.List.{list_any}
use Rattle.comp_tree.specs.declared.shape.Connect.{Connect}
use Rattle.comp_tree.specs.Raster.{Raster, is_at_least, pixels}
use Rattle.comp_tree.specs.Grid.{are_neighbours}

abbrev pub is_marked : List Bool → ℕ → Bool
is_marked marks p = slice_index_or marks p false

-- some neighbour of q is marked
abbrev pub has_marked_neighbour : Raster → Connect → List Bool → ℕ → Bool
has_marked_neighbour r connect marks q =
    list_any (is_marked marks) (filter (are_neighbours connect r.shape.width q) (pixels r))

-- q is not marked, belongs to the threshold set of level h, and has a marked neighbour
abbrev pub is_next : Raster → Connect → ℤ → List Bool → ℕ → Type 0
is_next r connect h marks q =
    IsFalse (is_marked marks q) × IsTrue (is_at_least r h q) × IsTrue (has_marked_neighbour r connect marks q)
