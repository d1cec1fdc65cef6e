use Rattle.source_sheet.specs.Checks.{AreNewlyMarked, IsBetween}
use Rattle.source_sheet.proofs.checking.mark_between.Given as goal

abbrev pub invariant-loop-p : goal.invariant-loop-p
invariant-loop-p l = AreNewlyMarked l.fn.marks l.marks (IsBetween l.first l.p)
