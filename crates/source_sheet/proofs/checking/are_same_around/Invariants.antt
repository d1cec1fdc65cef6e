use Rattle.std.proofs.Common.{ℕ, ◌<◌, ◌≤◌}
use Rattle.source_sheet.specs.Laid.{windows_of}
use Rattle.source_sheet.specs.Checks.{AreSameAround}
use Rattle.source_sheet.proofs.checking.are_same_around.Given as goal

abbrev pub invariant-loop-y : goal.invariant-loop-y
invariant-loop-y l = (x : ℕ) → l.first ≤ x → x < l.end → AreSameAround l.plane l.sheet l.connect (windows_of l.place) x l.row l.y
