use Rattle.std.proofs.Common.{◌≡◌, length}
use Rattle.source_sheet.proofs.copying.copy_group.Given as goal

abbrev pub invariant-loop-k : goal.invariant-loop-k
invariant-loop-k l = (length l.canvas.values ≡ length l.fn.canvas.values) × (l.canvas.most ≡ l.fn.canvas.most)
