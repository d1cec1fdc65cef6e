use Rattle.tree_canon.specs.Fitting.{AreFit}
use Rattle.tree_canon.proofs.tests.are_fit.Given as goal

abbrev pub invariant-loop-p : goal.invariant-loop-p
invariant-loop-p l = AreFit l.plane l.connect l.links l.p
