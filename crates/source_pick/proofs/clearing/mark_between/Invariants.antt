use Rattle.source_pick.specs.Clearing.{AreSetBetween}
use Rattle.source_pick.proofs.clearing.mark_between.Given as goal

abbrev pub invariant-loop-p : goal.invariant-loop-p
invariant-loop-p l = AreSetBetween l.start l.first l.end l.p l.fn.marks l.marks
