use Rattle.node_sums.specs.Merging.{AreCounted}
use Rattle.node_sums.specs.OutlinePasses.{AreOutlinesOf}
use Rattle.node_sums.proofs.outline.add_to_parents.Given as goal

abbrev pub invariant-loop-n : goal.invariant-loop-n
invariant-loop-n l = AreOutlinesOf (AreCounted l.plane l.tree l.n) l.outlines
