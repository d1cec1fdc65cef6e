use Rattle.std.proofs.Common.{◌≡◌, ◌*◌, length}
use Rattle.node_sums.specs.Merging.{AreOwnTo, places_of}
use Rattle.node_sums.proofs.listed.add_pixels.Given as goal

abbrev pub invariant-loop-row : goal.invariant-loop-row
invariant-loop-row l = record {
  own : AreOwnTo l.plane (places_of l.numbers l.node_of) (l.row * l.shape.width) l.sums;
  same_length : length l.sums ≡ length l.fn.sums;
}
