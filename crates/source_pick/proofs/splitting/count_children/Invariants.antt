use Rattle.source_pick.specs.Passes.{AreStrongChildCounts}
use Rattle.source_pick.proofs.splitting.count_children.Given as goal

abbrev pub invariant-loop-n : goal.invariant-loop-n
invariant-loop-n l = AreStrongChildCounts l.tree.rows l.entries l.strong l.n l.children
