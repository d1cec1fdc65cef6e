use Rattle.std.proofs.Common.{◌≡◌, ◌*◌}
use Rattle.mesh_background.proofs.Gathering.{values_before}
use Rattle.mesh_background.proofs.cells.cell_members.Given as goal

abbrev pub invariant-loop-y : goal.invariant-loop-y
invariant-loop-y l = l.members.items ≡ values_before l.plane l.grid.mesh l.cell (l.y * l.plane.shape.width)
