use Rattle.std.proofs.Common.{◌≡◌, length}
use Rattle.source_sheet.proofs.copying.copy_groups.Given as goal

abbrev pub invariant-loop-end : goal.invariant-loop-end
invariant-loop-end l = (length l.canvas.values ≡ length l.initial.canvas.values) × (l.canvas.most ≡ l.initial.canvas.most)
