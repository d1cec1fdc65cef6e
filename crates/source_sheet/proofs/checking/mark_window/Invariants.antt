use Rattle.source_sheet.specs.Laid.{window_at}
use Rattle.source_sheet.specs.Checks.{AreNewlyMarked, IsInRows}
use Rattle.source_sheet.proofs.checking.mark_window.Given as goal

abbrev pub invariant-loop-row : goal.invariant-loop-row
invariant-loop-row l = AreNewlyMarked l.fn.marks l.marks (IsInRows l.whole.width (window_at l.left l.top l.shape) l.row)
