use Rattle.dual_measure.specs.Adding.{AreDownTo}
use Rattle.dual_measure.proofs.adding.add_to_parents.Given as goal

abbrev pub invariant-loop-n : goal.invariant-loop-n
invariant-loop-n l = AreDownTo l.values l.tree l.n l.entries
