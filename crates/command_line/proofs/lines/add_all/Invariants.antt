-- The pieces so far stand in the sink or wait.
use Rattle.std.proofs.Common.{◌≡◌, ◌≤◌, ◌+◌, ◌%◌, ◌++◌, take, length}
use Rattle.std.specs.List.{concat}
use Rattle.dev_io.specs.Blocks.{Moves}
use Rattle.command_line.specs.Lines.{texts}
use Rattle.command_line.proofs.lines.add_all.Given as goal

abbrev pub invariant-loop-piece : goal.invariant-loop-piece
invariant-loop-piece g l = record {
  moved : Moves (g.O.Sink.written l.initial.sink) (g.O.Sink.written l.sink) (l.initial.block ++ concat (take l.piece-index (texts l.pieces))) l.block;
  whole : length l.block % 2880 ≡ (length l.initial.block + length (concat (take l.piece-index (texts l.pieces)))) % 2880;
  later : g.O.Sink.faults l.initial.sink ≤ g.O.Sink.faults l.sink;
}
