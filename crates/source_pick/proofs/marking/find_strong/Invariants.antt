use Rattle.source_pick.specs.Passes.{AreStrong}
use Rattle.source_pick.proofs.marking.find_strong.Given as goal

abbrev pub invariant-loop-n : goal.invariant-loop-n
invariant-loop-n l = AreStrong l.choice l.tree l.outlines l.n l.strong
