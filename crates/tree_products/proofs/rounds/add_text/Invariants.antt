-- The bytes so far stand in the sink or wait.
use Rattle.std.proofs.Common.{◌≤◌, ◌-◌, ◌++◌, take, length}
use Rattle.dev_io.specs.Blocks.{Moves}
use Rattle.tree_products.proofs.rounds.add_text.Given as goal

abbrev pub invariant-loop-first : goal.invariant-loop-first
invariant-loop-first g l = record {
  within : l.first ≤ length l.text;
  moved : Moves (g.O.Sink.written l.initial.sink) (g.O.Sink.written l.sink) (l.initial.block ++ take l.first l.text) l.block;
  later : g.O.Sink.faults l.initial.sink ≤ g.O.Sink.faults l.sink;
}

abbrev pub decreases-loop-first : goal.decreases-loop-first
decreases-loop-first g l = length l.text - l.first
