use Rattle.tile_make.specs.Told.{AreMarkedCells}
use Rattle.tile_make.proofs.cells.mark_cells.Given as goal

abbrev pub invariant-loop-p : goal.invariant-loop-p
invariant-loop-p l = AreMarkedCells l.image l.mesh l.p l.found
