-- The pixels from the first up to p are decoded, and those before them stayed.
use Rattle.std.proofs.Common.{◌≡◌, ◌-◌, ◌≤◌, length}
use Rattle.pixel_plane.specs.WithinLimits.{HasValuesInLimits}
use Rattle.pixel_plane.specs.Decoding.{IsDecoded}
use Rattle.pixel_plane.proofs.read.decode_narrow.Given as goal

abbrev pub invariant-loop-p : goal.invariant-loop-p
invariant-loop-p l = record {
  from : l.first ≤ l.p;
  within : l.p ≤ l.end;
  shape : l.canvas.shape ≡ l.initial.canvas.shape;
  count : length l.canvas.values ≡ length l.initial.canvas.values;
  most : l.canvas.most ≡ l.initial.canvas.most;
  in_limits : HasValuesInLimits l.encoding.limits l.canvas.values;
  decoded : IsDecoded l.encoding l.bytes l.first l.p l.initial.canvas.values l.canvas.values;
}

abbrev pub decreases-loop-p : goal.decreases-loop-p
decreases-loop-p l = l.end - l.p
