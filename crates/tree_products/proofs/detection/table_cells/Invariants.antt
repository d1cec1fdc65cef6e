-- The table has the cells of the nodes so far.
use Rattle.tree_products.proofs.Cells.{AreCells}
use Rattle.tree_products.proofs.detection.table_cells.Given as goal

abbrev pub invariant-loop-place : goal.invariant-loop-place
invariant-loop-place l = AreCells l.tree l.sums l.picked l.place l.table.items
