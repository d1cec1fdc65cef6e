use Rattle.std.proofs.Common.{◌≡◌, length}
use Rattle.source_sheet.proofs.copying.copy_around.Given as goal

abbrev pub invariant-loop-y : goal.invariant-loop-y
invariant-loop-y l = (length l.canvas.values ≡ length l.fn.canvas.values) × (l.canvas.most ≡ l.fn.canvas.most)
