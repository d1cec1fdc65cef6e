-- The texts so far stand in the sink or wait.
use Rattle.std.proofs.Common.{◌≤◌, ◌++◌, take, map}
use Rattle.std.specs.List.{concat}
use Rattle.dev_io.specs.Blocks.{Moves}
use Rattle.tree_products.proofs.rounds.add_texts.Given as goal

abbrev pub invariant-loop-text : goal.invariant-loop-text
invariant-loop-text g l = record {
  moved : Moves (g.O.Sink.written l.initial.sink) (g.O.Sink.written l.sink)
      (l.initial.block ++ concat (take l.text-index (map (λ text. text.items) l.texts))) l.block;
  later : g.O.Sink.faults l.initial.sink ≤ g.O.Sink.faults l.sink;
}
