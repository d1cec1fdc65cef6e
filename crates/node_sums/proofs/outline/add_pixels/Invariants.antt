use Rattle.std.proofs.Common.{◌≡◌, ◌*◌, length}
use Rattle.node_sums.specs.Merging.{AreOwnTo}
use Rattle.node_sums.specs.OutlinePasses.{AreOutlinesOf}
use Rattle.node_sums.proofs.outline.add_pixels.Given as goal

abbrev pub invariant-loop-row : goal.invariant-loop-row
invariant-loop-row l = record {
  own : AreOutlinesOf (AreOwnTo l.plane l.node_of (l.row * l.shape.width)) l.outlines;
  same_length : length l.outlines ≡ length l.fn.outlines;
}
