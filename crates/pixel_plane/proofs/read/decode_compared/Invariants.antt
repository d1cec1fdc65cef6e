-- The pixels from the first up to p are decoded, and those before them stayed.
use Rattle.std.proofs.Common.{◌≡◌, length}
use Rattle.pixel_plane.specs.WithinLimits.{HasValuesInLimits}
use Rattle.pixel_plane.specs.Decoding.{IsDecoded}
use Rattle.pixel_plane.proofs.read.decode_compared.Given as goal

abbrev pub invariant-loop-p : goal.invariant-loop-p
invariant-loop-p l = record {
  shape : l.canvas.shape ≡ l.initial.canvas.shape;
  count : length l.canvas.values ≡ length l.initial.canvas.values;
  most : l.canvas.most ≡ l.initial.canvas.most;
  in_limits : HasValuesInLimits l.encoding.limits l.canvas.values;
  decoded : IsDecoded l.encoding l.bytes l.first l.p l.initial.canvas.values l.canvas.values;
}
