use Rattle.measure_top.proofs.PickedRows.{AreFirstNodes}
use Rattle.measure_top.proofs.picking_near.picked_nodes.Given as goal

abbrev pub invariant-loop-place : goal.invariant-loop-place
invariant-loop-place l = AreFirstNodes l.tree l.sums l.picked l.place l.nodes.items
