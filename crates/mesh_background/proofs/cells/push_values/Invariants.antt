use Rattle.std.proofs.Common.{◌≡◌, ◌++◌, ◌*◌, length}
use Rattle.std.specs.List.{range_with_len}
use Rattle.mesh_background.specs.Mesh.{defined_values}
use Rattle.mesh_background.proofs.cells.push_values.Given as goal

abbrev pub invariant-loop-k : goal.invariant-loop-k
invariant-loop-k l = record {
  long : length l.run ≡ 64;
  gathered : l.members.items ≡ l.fn.members.items ++ defined_values l.plane (range_with_len l.first (l.k * 64));
}
