use Rattle.std.proofs.Common.{rules}
use Rattle.tree_canon.proofs.Sorting.{sorted_rows}
use Rattle.tree_canon.proofs.rows.sort_by_threads.Goals as goal

pub returns-clause-sorted : goal.returns-clause-sorted
returns-clause-sorted g c = sorted_rows _ c.par_sort_unstable_by_key.ensures.sorted (λ a r q k. search rules)
