use Rattle.std.proofs.Common.{◌+◌, ◌*◌}
use Rattle.mesh_background.specs.Residuals.{pixel_level}
use Rattle.mesh_background.specs.Lessened.{IsLessened}
use Rattle.mesh_background.specs.Slopes.{first_before}
use Rattle.mesh_background.proofs.subtraction.lessen_row_by_levels.Given as goal

abbrev pub invariant-loop-next : goal.invariant-loop-next
invariant-loop-next l = IsLessened l.fn.row (λ x. pixel_level l.grid.mesh l.grid.shape l.numbers (l.y * l.grid.shape.width + x)) 0
    (first_before l.grid.mesh l.grid.shape.width l.next) l.row
