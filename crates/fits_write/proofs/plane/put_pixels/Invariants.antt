-- The pixels so far stand in the sink or wait.
use Rattle.std.proofs.Common.{◌≤◌, take, map}
use Rattle.std.specs.List.{concat}
use Rattle.fits_write.specs.Waiting.{Waits}
use Rattle.fits_write.specs.Hdus.{pixel_bytes}
use Rattle.fits_write.proofs.plane.put_pixels.Given as goal

abbrev pub invariant-loop-p : goal.invariant-loop-p
invariant-loop-p g l = record {
  waiting : Waits (g.O.Sink.written l.initial.sink) (g.O.Sink.written l.sink) (concat (take l.p (map pixel_bytes l.plane.values))) l.blocks;
  later : g.O.Sink.faults l.initial.sink ≤ g.O.Sink.faults l.sink;
}
