-- The table has the rows of the nodes so far.
use Rattle.measure_top.proofs.MeasuredRows.{AreMeasuredRows}
use Rattle.measure_top.proofs.measuring.table_cells.Given as goal

abbrev pub invariant-loop-node : goal.invariant-loop-node
invariant-loop-node l = AreMeasuredRows l.tree l.measures l.nodes l.node-index l.table.items
