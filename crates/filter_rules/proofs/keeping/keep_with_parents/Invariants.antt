use Rattle.filter_rules.specs.Passes.{AreWithParents}
use Rattle.filter_rules.proofs.keeping.keep_with_parents.Given as goal

abbrev pub invariant-loop-n : goal.invariant-loop-n
invariant-loop-n l = AreWithParents l.rows l.fn.kept l.kept l.n
