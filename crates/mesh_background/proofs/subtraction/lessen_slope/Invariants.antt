use Rattle.std.proofs.Common.{◌≡◌, ◌-◌, ◌<◌}
use Rattle.std.specs.Prelude.{pos, ◌+ℤ◌, ◌*ℤ◌}
use Rattle.mesh_background.specs.Lessened.{IsLessened}
use Rattle.mesh_background.specs.Slopes.{in_parts, steps_on}
use Rattle.mesh_background.proofs.subtraction.lessen_slope.Given as goal

abbrev pub invariant-loop-x : goal.invariant-loop-x
invariant-loop-x l = IsLessened l.fn.row (λ x. steps_on l.parts l.fn.level l.step (x - l.first)) l.first l.x l.row
    × (in_parts l.parts l.at ≡ in_parts l.parts l.fn.level +ℤ pos (l.x - l.first) *ℤ in_parts l.parts l.step)
    × (l.at.rest < l.parts)
