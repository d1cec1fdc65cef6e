-- The best of the rows so far are kept.
use Rattle.std.proofs.Common.{◌++◌, List, take, heap_items}
use Rattle.survey_core.specs.declared.ranking.Row.{Row}
use Rattle.survey_core.specs.Ranking.{rows_of}
use Rattle.survey_core.specs.Ranks.{AreBest}
use Rattle.survey_core.proofs.ranking.rank_all.Given as goal

abbrev pub invariant-loop-row : goal.invariant-loop-row
invariant-loop-row l = (rows : List Row) → AreBest l.most rows (heap_items l.fn.best)
    → AreBest l.most (rows ++ take l.row (rows_of (l.field, l.cells))) (heap_items l.best)
