use Rattle.source_sheet.specs.Laid.{windows_of}
use Rattle.source_sheet.specs.Checks.{IsRowSame}
use Rattle.source_sheet.proofs.checking.is_row_same.Given as goal

abbrev pub invariant-loop-column : goal.invariant-loop-column
invariant-loop-column l = IsRowSame l.plane l.sheet (windows_of l.place) l.row l.first l.column
