use Rattle.std.proofs.Common.{rules}
use Rattle.tree_canon.proofs.Sorting.{sorted_rows}
use Rattle.tree_canon.proofs.rows.sort_rows.Goals as goal

pub returns-else-parts-gt1-clause-sorted : goal.returns-else-parts-gt1-clause-sorted
returns-else-parts-gt1-clause-sorted g c = sorted_rows _ c.sort_unstable_by_key.ensures.sorted (λ a r q k. search rules)
