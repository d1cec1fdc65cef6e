-- Bookkeeping: the strips of a cut, and the adjacencies within and between them.
use Rattle.std.specs.Prelude.{ℕ, ◌+◌, ◌/◌, ◌<◌, ◌≤◌, List, length, Option, ℤ, IsTrue, slice_index}
use Rattle.comp_tree.specs.declared.shape.Connect.{Connect}
use Rattle.comp_tree.specs.Grid.{are_adjacent}
use Rattle.tree_join.specs.Boundary.{IsBoundary}

-- the row is one of strip i
pub record IsRowOf (cut : List ℕ) (i row : ℕ) : Type 0 where
  pub inside : i < length cut
  pub low : slice_index cut i ≤ row
  pub high : i + 1 < length cut → row < slice_index cut (i + 1)

-- an adjacency of two pixels of one strip, which is one of those below k
pub record IsStripPair (values : List (Option ℤ)) (width : ℕ) (connect : Connect) (cut : List ℕ) (k p q : ℕ) : Type 0 where
  pub adjacent : IsTrue (are_adjacent values width connect p q)
  pub strip : ℕ
  pub low : strip < k
  pub one : IsRowOf cut strip (p / width)
  pub other : IsRowOf cut strip (q / width)

-- an adjacency between two strips, the lower of which is one of those below k
pub record IsCutBoundary (values : List (Option ℤ)) (width : ℕ) (connect : Connect) (cut : List ℕ) (k p q : ℕ) : Type 0 where
  pub strip : ℕ
  pub low : 0 < strip
  pub high : strip < k
  pub boundary : IsBoundary values width connect (slice_index cut strip) p q
