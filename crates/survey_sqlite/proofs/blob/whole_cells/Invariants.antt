use Rattle.std.proofs.Common.{◌≡◌, ◌++◌, ◌%◌, length}
use Rattle.survey_sqlite.specs.Blobs.{blob_cells}
use Rattle.survey_sqlite.proofs.blob.whole_cells.Given as goal

abbrev pub invariant-loop-first : goal.invariant-loop-first
invariant-loop-first l = (l.cells.items ++ blob_cells l.rest ≡ blob_cells l.fn.blob) × (length l.rest % 8 ≡ length l.fn.blob % 8)

abbrev pub decreases-loop-first : goal.decreases-loop-first
decreases-loop-first l = length l.rest
