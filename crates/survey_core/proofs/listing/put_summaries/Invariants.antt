-- The lines so far stand in the sink or wait.
use Rattle.std.proofs.Common.{◌≤◌, ◌++◌, take, map}
use Rattle.std.specs.List.{concat}
use Rattle.dev_io.specs.Blocks.{Moves}
use Rattle.survey_core.specs.Listings.{summary_line}
use Rattle.survey_core.proofs.listing.put_summaries.Given as goal

abbrev pub invariant-loop-summary : goal.invariant-loop-summary
invariant-loop-summary g l = record {
  moved : Moves (g.O.Sink.written l.initial.sink) (g.O.Sink.written l.sink)
      (l.initial.block ++ concat (take l.summary-index (map summary_line l.summaries))) l.block;
  later : g.O.Sink.faults l.initial.sink ≤ g.O.Sink.faults l.sink;
}
