-- The cells so far stand in the sink or wait.
use Rattle.std.proofs.Common.{◌≤◌, take}
use Rattle.std.specs.List.{concat}
use Rattle.fits_write.specs.Waiting.{Waits}
use Rattle.fits_write.proofs.TableParts.{cell_pieces}
use Rattle.fits_write.proofs.table.put_cells.Given as goal

abbrev pub invariant-loop-place : goal.invariant-loop-place
invariant-loop-place g l = record {
  waiting : Waits (g.O.Sink.written l.initial.sink) (g.O.Sink.written l.sink) (concat (take l.place (cell_pieces l.columns l.cells))) l.blocks;
  later : g.O.Sink.faults l.initial.sink ≤ g.O.Sink.faults l.sink;
}
