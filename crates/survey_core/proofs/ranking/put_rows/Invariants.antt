-- The lines so far stand in the sink or wait.
use Rattle.std.proofs.Common.{◌≤◌, ◌++◌, take, map}
use Rattle.std.specs.List.{concat}
use Rattle.dev_io.specs.Blocks.{Moves}
use Rattle.survey_core.specs.Ranking.{row_line}
use Rattle.survey_core.proofs.ranking.put_rows.Given as goal

abbrev pub invariant-loop-row : goal.invariant-loop-row
invariant-loop-row g l = record {
  moved : Moves (g.O.Sink.written l.initial.sink) (g.O.Sink.written l.sink) (l.initial.block ++ concat (take l.row-index (map row_line l.rows))) l.block;
  later : g.O.Sink.faults l.initial.sink ≤ g.O.Sink.faults l.sink;
}
