use Rattle.std.proofs.Common.{◌≡◌, length}
use Rattle.dual_measure.specs.Adding.{AreOfFront}
use Rattle.dual_measure.proofs.adding.add_pixels.Given as goal

abbrev pub invariant-loop-p : goal.invariant-loop-p
invariant-loop-p l = record {
  front : AreOfFront l.values l.node_of l.p l.entries;
  same_length : length l.entries ≡ length l.fn.entries;
}
