-- The cards of the columns so far stand in the sink or wait.
use Rattle.std.proofs.Common.{◌≤◌, ◌++◌, take}
use Rattle.std.specs.List.{concat}
use Rattle.fits_write.specs.Waiting.{Waits}
use Rattle.fits_write.specs.Columns.{column_cards}
use Rattle.fits_write.proofs.table.add_columns.Given as goal

abbrev pub invariant-loop-index : goal.invariant-loop-index
invariant-loop-index g l = record {
  waiting : Waits (g.O.Sink.written l.initial.sink) (g.O.Sink.written l.sink) (l.initial.blocks ++ concat (column_cards 1 (take l.index l.columns))) l.blocks;
  later : g.O.Sink.faults l.initial.sink ≤ g.O.Sink.faults l.sink;
}
