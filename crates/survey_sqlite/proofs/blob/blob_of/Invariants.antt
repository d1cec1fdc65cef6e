use Rattle.std.proofs.Common.{◌≡◌, take, FitsSigned, w64}
use Rattle.std.specs.List.{AllByRecursion}
use Rattle.survey_sqlite.specs.Blobs.{blob_of}
use Rattle.survey_sqlite.proofs.blob.blob_of.Given as goal

abbrev pub invariant-loop-cell : goal.invariant-loop-cell
invariant-loop-cell l = (l.blob.items ≡ blob_of (take l.cell-index l.cells)) × AllByRecursion (FitsSigned w64) (take l.cell-index l.cells)
