use Rattle.std.proofs.Common.{ℕ, ◌<◌, get_or}
use Rattle.std.specs.Prelude.{IsTrue}
use Rattle.comp_tree.specs.Raster.{is_defined}
use Rattle.source_sheet.specs.Laid.{window_at}
use Rattle.source_sheet.specs.Checks.{IsInWindow}
use Rattle.source_sheet.proofs.checking.are_all_seen.Given as goal

abbrev pub invariant-loop-a : goal.invariant-loop-a
invariant-loop-a l = (k : ℕ) → k < l.a-index → IsTrue (is_defined l.plane (get_or l.near k 0))
    → IsInWindow l.plane.shape.width (window_at l.left l.top l.shape) (get_or l.near k 0)
