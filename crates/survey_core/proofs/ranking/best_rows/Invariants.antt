-- The best of the rows of the fields so far are kept, and the tables stay.
use Rattle.std.proofs.Common.{◌≤◌, take, heap_items}
use Rattle.std.specs.Option.{ForSome}
use Rattle.survey_core.specs.Clauses.{Stays}
use Rattle.survey_core.specs.Ranking.{all_rows}
use Rattle.survey_core.specs.Ranks.{AreBest}
use Rattle.survey_core.proofs.ranking.best_rows.Given as goal

abbrev pub invariant-loop-name : goal.invariant-loop-name
invariant-loop-name g l = record {
  so_far : ForSome (g.K.Keeper.tables l.fn.keeper) (λ tables. AreBest l.most (all_rows (take l.name-index tables)) (heap_items l.best));
  kept : Stays (g.K.Keeper.tables l.fn.keeper) (g.K.Keeper.tables l.keeper);
  later : g.K.Keeper.faults l.fn.keeper ≤ g.K.Keeper.faults l.keeper;
}
