use Rattle.comp_tree.specs.Stored.{IsClearedUpTo}
use Rattle.comp_tree.proofs.plane.Plane.clear_unmarked.Given as goal

abbrev pub invariant-loop-p : goal.invariant-loop-p
invariant-loop-p l = IsClearedUpTo l.fn.self l.marks l.p l.self
