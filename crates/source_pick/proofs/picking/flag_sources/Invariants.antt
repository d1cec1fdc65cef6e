use Rattle.std.proofs.Common.{List, length}
use Rattle.node_sums.specs.declared.outline.Outline.{Outline}
use Rattle.source_pick.specs.declared.choice.Choice.{Choice}
use Rattle.source_pick.specs.Passes.{AreEntries, AreStrong, AreSources}
use Rattle.source_pick.proofs.picking.flag_sources.Given as goal

abbrev pub invariant-loop-n : goal.invariant-loop-n
invariant-loop-n l = (choice : Choice) (outlines : List Outline) → AreEntries choice l.tree outlines (length l.tree.rows) l.entries
    → AreStrong choice l.tree outlines (length l.tree.rows) l.strong → AreSources choice l.tree outlines l.n l.flags
