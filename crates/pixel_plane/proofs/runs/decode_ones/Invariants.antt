-- The pixels before k are decoded.
use Rattle.std.proofs.Common.{◌≡◌, length}
use Rattle.pixel_plane.specs.Decoding.{IsRunDecoded}
use Rattle.pixel_plane.proofs.runs.decode_ones.Given as goal

abbrev pub invariant-loop-k : goal.invariant-loop-k
invariant-loop-k l = record {
  one_each : length l.run ≡ length l.initial.run;
  decoded : IsRunDecoded l.encoding l.bytes l.run l.k;
}
