use Rattle.std.proofs.Common.{ℕ, ◌<◌, get_or}
use Rattle.std.specs.Prelude.{IsTrue}
use Rattle.comp_tree.specs.Marks.{is_marked}
use Rattle.source_sheet.proofs.holding.are_marked.Given as goal

abbrev pub invariant-loop-p : goal.invariant-loop-p
invariant-loop-p l = (k d : ℕ) → k < l.p-index → IsTrue (is_marked l.marks (get_or l.listed k d))
