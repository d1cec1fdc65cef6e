-- The lines so far stand in the sink or wait.
use Rattle.std.proofs.Common.{◌≤◌, ◌++◌}
use Rattle.dev_io.specs.Blocks.{Moves}
use Rattle.tree_products.specs.LineStretches.{lines_between}
use Rattle.tree_products.proofs.lines.add_lines.Given as goal

abbrev pub invariant-loop-number : goal.invariant-loop-number
invariant-loop-number g l = record {
  moved : Moves (g.O.Sink.written l.initial.sink) (g.O.Sink.written l.sink) (l.initial.block ++ lines_between l.rows l.areas l.first l.number) l.block;
  later : g.O.Sink.faults l.initial.sink ≤ g.O.Sink.faults l.sink;
}
