-- The lines of the rounds so far stand in the sink or wait.
use Rattle.std.proofs.Common.{◌≤◌, ◌-◌, ◌++◌, length}
use Rattle.dev_io.specs.Blocks.{Moves}
use Rattle.tree_products.specs.LineStretches.{lines_between}
use Rattle.tree_products.proofs.rounds.put_in_rounds.Given as goal

abbrev pub invariant-loop-first : goal.invariant-loop-first
invariant-loop-first g l = record {
  within : l.first ≤ length l.rows;
  moved : Moves (g.O.Sink.written l.initial.sink) (g.O.Sink.written l.sink) (l.initial.block ++ lines_between l.rows l.areas 0 l.first) l.block;
  later : g.O.Sink.faults l.initial.sink ≤ g.O.Sink.faults l.sink;
}

abbrev pub decreases-loop-first : goal.decreases-loop-first
decreases-loop-first g l = length l.rows - l.first
