use Rattle.std.proofs.Common.{ℕ, ◌+◌, ◌*◌, ◌/◌, ◌%◌, ◌<◌, ◌≤◌, ap, arith}
use Rattle.mesh_background.specs.Mesh.{cell_count, mesh_cell_of}
use Rattle.tile_make.proofs.Meshing.{cell-read, cells-few}
use Rattle.tile_make.proofs.cells.cell_of.Goals as goal

pub overflow_add-result : goal.overflow_add-result
overflow_add-result c =
    let shape = c.args.shape in
    let within : c.args.p / shape.width / c.args.mesh * c.cells_over.result + c.args.p % shape.width / c.args.mesh < cell_count c.args.mesh shape =
    cell-read c.args.mesh shape c.args.p c.cells_over.result c.requires.some c.requires.below c.cells_over.ensures in
    let few : cell_count c.args.mesh shape ≤ 2147483647 = cells-few c.args.mesh shape c.requires.some in
    omega arith

pub returns-clause-cell : goal.returns-clause-cell
unfolding mesh_cell_of
returns-clause-cell c =
    ap (λ (n : ℕ). c.args.p / c.args.shape.width / c.args.mesh * n + c.args.p % c.args.shape.width / c.args.mesh) c.cells_over.ensures

pub returns-clause-within : goal.returns-clause-within
returns-clause-within c = cell-read c.args.mesh c.args.shape c.args.p c.cells_over.result c.requires.some c.requires.below c.cells_over.ensures
