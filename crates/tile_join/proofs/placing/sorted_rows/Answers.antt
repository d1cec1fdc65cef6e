use Rattle.std.proofs.Common.{rules}
use Rattle.std.proofs.lemmas.List.Sorted.{IsNonDecreasingBy-from_sort_by_key}
use Rattle.tile_join.specs.declared.placing.PlacedRow.{PlacedRow}
use Rattle.tile_join.proofs.placing.sorted_rows.Goals as goal

pub returns-clause-sorted : goal.returns-clause-sorted
returns-clause-sorted c =
    IsNonDecreasingBy-from_sort_by_key (λ (s : PlacedRow). s.first) _ c.sort_unstable_by_key.ensures.sorted (λ a r q k. search rules)
