use Rattle.std.proofs.Common.{◌≡◌, map}
use Rattle.std.specs.List.{range_with_len}
use Rattle.mesh_background.specs.Smoothing.{filtered_number}
use Rattle.mesh_background.proofs.smoothing.smooth_mesh.Given as goal

abbrev pub invariant-loop-cell : goal.invariant-loop-cell
invariant-loop-cell l = l.smooth.items ≡ map (filtered_number l.values l.columns l.rows) (range_with_len 0 l.cell)
