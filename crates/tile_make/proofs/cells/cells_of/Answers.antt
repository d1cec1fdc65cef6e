use Rattle.std.proofs.Common.{◌*◌, ◌≤◌, arith}
use Rattle.tile_make.proofs.Meshing.{cells-read}
use Rattle.tile_make.proofs.cells.cells_of.Goals as goal

pub overflow_mul-result : goal.overflow_mul-result
overflow_mul-result c =
    let few : c.cells_over.result * c.cells_over-2.result ≤ 2147483647 =
    cells-read c.args.mesh c.args.shape c.cells_over.result c.cells_over-2.result c.requires.some c.cells_over.ensures c.cells_over-2.ensures in
    omega arith
