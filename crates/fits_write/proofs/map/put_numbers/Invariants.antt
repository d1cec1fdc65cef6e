-- The numbers so far stand in the sink or wait.
use Rattle.std.proofs.Common.{◌≤◌, ◌-◌, take, length}
use Rattle.fits_write.specs.Waiting.{Waits}
use Rattle.fits_write.specs.Hdus.{map_bytes}
use Rattle.fits_write.proofs.map.put_numbers.Given as goal

abbrev pub invariant-loop-first : goal.invariant-loop-first
invariant-loop-first g l = record {
  within : l.first ≤ length l.numbers;
  waiting : Waits (g.O.Sink.written l.initial.sink) (g.O.Sink.written l.sink) (map_bytes (take l.first l.numbers)) l.blocks;
  later : g.O.Sink.faults l.initial.sink ≤ g.O.Sink.faults l.sink;
}

abbrev pub decreases-loop-first : goal.decreases-loop-first
decreases-loop-first g l = length l.numbers - l.first
