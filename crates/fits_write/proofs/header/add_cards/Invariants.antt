-- The cards so far stand in the sink or wait.
use Rattle.std.proofs.Common.{◌≤◌, ◌++◌, take}
use Rattle.std.specs.List.{concat}
use Rattle.fits_write.specs.Waiting.{Waits}
use Rattle.fits_write.proofs.header.add_cards.Given as goal

abbrev pub invariant-loop-card : goal.invariant-loop-card
invariant-loop-card g l = record {
  waiting : Waits (g.O.Sink.written l.initial.sink) (g.O.Sink.written l.sink) (l.initial.blocks ++ concat (take l.card-index l.cards)) l.blocks;
  later : g.O.Sink.faults l.initial.sink ≤ g.O.Sink.faults l.sink;
}
