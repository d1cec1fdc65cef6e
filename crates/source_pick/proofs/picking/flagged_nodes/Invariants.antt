use Rattle.std.proofs.Common.{List, length}
use Rattle.node_sums.specs.declared.outline.Outline.{Outline}
use Rattle.source_pick.specs.declared.choice.Choice.{Choice}
use Rattle.source_pick.specs.Passes.{AreSources, AreListedSources}
use Rattle.source_pick.proofs.picking.flagged_nodes.Given as goal

abbrev pub invariant-loop-n : goal.invariant-loop-n
invariant-loop-n l = (choice : Choice) (outlines : List Outline) → AreSources choice l.tree outlines (length l.tree.rows) l.flags
    → AreListedSources choice l.tree outlines l.n l.nodes.items
