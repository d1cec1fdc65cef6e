-- The fields so far have their summaries, and the tables stay.
use Rattle.std.proofs.Common.{◌≡◌, ◌≤◌, map, take}
use Rattle.std.specs.Option.{ForSome}
use Rattle.survey_core.specs.Clauses.{Stays}
use Rattle.survey_core.specs.Listings.{table_summary}
use Rattle.survey_core.proofs.listing.summarize.Given as goal

abbrev pub invariant-loop-name : goal.invariant-loop-name
invariant-loop-name g l = record {
  so_far : ForSome (g.K.Keeper.tables l.fn.keeper) (λ tables. l.summaries.items ≡ map table_summary (take l.name-index tables));
  kept : Stays (g.K.Keeper.tables l.fn.keeper) (g.K.Keeper.tables l.keeper);
  later : g.K.Keeper.faults l.fn.keeper ≤ g.K.Keeper.faults l.keeper;
}
