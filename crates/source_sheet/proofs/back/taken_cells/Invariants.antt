use Rattle.source_sheet.proofs.Rows.{AreCellsBack}
use Rattle.source_sheet.proofs.back.taken_cells.Given as goal

abbrev pub invariant-loop-place : goal.invariant-loop-place
invariant-loop-place l = AreCellsBack l.tree l.taken l.place l.table.items
