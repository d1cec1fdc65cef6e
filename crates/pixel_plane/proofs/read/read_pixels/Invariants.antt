-- The pixels before the first are read, from exactly the bytes of their numbers.
use Rattle.std.proofs.Common.{◌≡◌, ◌-◌, ◌≤◌, length}
use Rattle.std.specs.Option.{ForSome}
use Rattle.pixel_plane.specs.WithinLimits.{HasValuesInLimits}
use Rattle.pixel_plane.specs.Decoding.{ReadSoFar}
use Rattle.pixel_plane.proofs.read.read_pixels.Given as goal

abbrev pub invariant-loop-first : goal.invariant-loop-first
invariant-loop-first g l = record {
  within : l.first ≤ l.count;
  shape : l.canvas.shape ≡ l.initial.canvas.shape;
  values : length l.canvas.values ≡ length l.initial.canvas.values;
  most : l.canvas.most ≡ l.initial.canvas.most;
  in_limits : HasValuesInLimits l.encoding.limits l.canvas.values;
  told : ForSome (g.S.Source.left l.initial.src) (λ bytes. ReadSoFar l.encoding bytes (g.S.Source.left l.src) l.canvas.values l.first);
  later : g.S.Source.faults l.initial.src ≤ g.S.Source.faults l.src;
}

abbrev pub decreases-loop-first : goal.decreases-loop-first
decreases-loop-first g l = l.count - l.first
