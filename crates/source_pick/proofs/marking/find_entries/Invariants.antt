use Rattle.source_pick.specs.Passes.{AreEntries}
use Rattle.source_pick.proofs.marking.find_entries.Given as goal

abbrev pub invariant-loop-n : goal.invariant-loop-n
invariant-loop-n l = AreEntries l.choice l.tree l.outlines l.n l.entries
