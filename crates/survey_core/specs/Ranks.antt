-- Bookkeeping: rows in their order.
use Rattle.std.specs.Prelude.{◌≡◌, ◌≤◌, ◌⊎◌, ◌++◌, ℕ, length, false, List, [], ◌∷◌, if◌then◌else◌}
use Rattle.std.specs.BinaryHeap.{IsHeap}
use Rattle.std.specs.Cmp.{IsTotalOrder, then_total, back_total, on_total, int_cmp_total, nat_cmp_total}
use Rattle.std.specs.Cmp.Lexicographic.{lists_total}
use Rattle.std.specs.List.{AllByRecursion}
use Rattle.std.specs.List.Sorted.{IsPermutation}
use Rattle.survey_core.specs.declared.ranking.Row.{Row}
use Rattle.survey_core.specs.Ranking.{row_cmp, ranks_before}

pub row_order : IsTotalOrder row_cmp
row_order =
    then_total (back_total (on_total (λ r. r.flux) int_cmp_total)) (then_total (on_total (λ r. r.field) (lists_total nat_cmp_total))
    (on_total (λ r. r.number) int_cmp_total))

-- the row in front of the first that it comes before
abbrev pub with_row : Row → List Row → List Row
with_row row [] = row ∷ []
with_row row (first ∷ rest) = if ranks_before row first then row ∷ first ∷ rest else first ∷ with_row row rest

-- each of these, one after the other
abbrev pub with_rows : List Row → List Row → List Row
with_rows [] rows = rows
with_rows (row ∷ more) rows = with_rows more (with_row row rows)

-- These are the best of the rows, as a heap whose first is the last of them: no other row comes before one of them, and there are others only where
-- as many as `most` are kept.
pub record AreBest (most : ℕ) (rows best : List Row) : Type 0 where
  pub others : List Row
  pub same : IsPermutation rows (best ++ others)
  pub heap : IsHeap row_cmp best
  pub behind : AllByRecursion (λ other. AllByRecursion (λ row. ranks_before other row ≡ false) best) others
  pub few : length best ≤ most
  pub full : (others ≡ []) ⊎ (length best ≡ most)
