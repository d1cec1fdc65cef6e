use Rattle.std.proofs.Common.{◌≡◌, length}
use Rattle.source_sheet.proofs.copying.copy_row.Given as goal

abbrev pub invariant-loop-column : goal.invariant-loop-column
invariant-loop-column l = (length l.canvas.values ≡ length l.fn.canvas.values) × (l.canvas.most ≡ l.fn.canvas.most)
