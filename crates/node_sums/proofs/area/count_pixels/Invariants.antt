use Rattle.node_sums.specs.AreaPasses.{AreCounts}
use Rattle.node_sums.proofs.area.count_pixels.Given as goal

abbrev pub invariant-loop-p : goal.invariant-loop-p
invariant-loop-p l = AreCounts l.node_of l.p l.areas
