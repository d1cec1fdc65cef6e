use Rattle.node_sums.specs.AreaPasses.{AreSoFar}
use Rattle.node_sums.proofs.area.add_to_parents.Given as goal

abbrev pub invariant-loop-n : goal.invariant-loop-n
invariant-loop-n l = AreSoFar l.plane l.tree l.n l.areas
