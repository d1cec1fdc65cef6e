use Rattle.std.proofs.Common.{◌≡◌, ◌≤◌, ◌-◌, length, take, Less}
use Rattle.std.specs.List.{AllByRecursion}
use Rattle.survey_core.specs.Fields.{name_cmp}
use Rattle.survey_core.proofs.mem_keeper.place.Given as goal

abbrev pub invariant-loop-at : goal.invariant-loop-at
invariant-loop-at l = (l.at ≤ length l.entries) × AllByRecursion (λ e. name_cmp e.field l.field ≡ Less) (take l.at l.entries)

abbrev pub decreases-loop-at : goal.decreases-loop-at
decreases-loop-at l = length l.entries - l.at
