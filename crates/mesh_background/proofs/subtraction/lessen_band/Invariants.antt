use Rattle.std.proofs.Common.{◌+◌, ◌*◌}
use Rattle.mesh_background.specs.Lessened.{level_of, IsLessened}
use Rattle.mesh_background.proofs.subtraction.lessen_band.Given as goal

abbrev pub invariant-loop-row : goal.invariant-loop-row
invariant-loop-row l = IsLessened l.fn.band (λ k. level_of l.flat l.grid.mesh l.grid.shape l.numbers (l.start + k)) 0 (l.row * l.grid.shape.width) l.band
