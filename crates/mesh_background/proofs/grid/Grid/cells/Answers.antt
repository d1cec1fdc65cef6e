use Rattle.std.proofs.Common.{◌*◌, ◌≤◌, arith}
use Rattle.mesh_background.proofs.Extents.{cells-read}
use Rattle.mesh_background.proofs.grid.Grid.cells.Goals as goal

pub overflow_mul-result : goal.overflow_mul-result
overflow_mul-result c =
    let g = c.args.self.now in
    let few : g.columns * g.rows ≤ 2147483647 =
    cells-read g.mesh g.shape.width g.shape.height g.columns g.rows g.some g.shape.within_limits g.columns_is g.rows_is in
    omega arith

pub returns-clause-few : goal.returns-clause-few
returns-clause-few c =
    let g = c.args.self.now in
    cells-read g.mesh g.shape.width g.shape.height g.columns g.rows g.some g.shape.within_limits g.columns_is g.rows_is
