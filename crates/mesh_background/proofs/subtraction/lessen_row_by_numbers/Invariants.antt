use Rattle.std.proofs.Common.{◌+◌, ◌*◌, min}
use Rattle.mesh_background.specs.Lessened.{number_of_cell, IsLessened}
use Rattle.mesh_background.proofs.subtraction.lessen_row_by_numbers.Given as goal

abbrev pub invariant-loop-column : goal.invariant-loop-column
invariant-loop-column l = IsLessened l.fn.row (λ x. number_of_cell l.grid.mesh l.grid.shape.width l.numbers (l.y * l.grid.shape.width + x)) 0
    (min (l.column * l.grid.mesh) l.grid.shape.width) l.row
