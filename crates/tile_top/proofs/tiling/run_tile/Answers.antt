use Rattle.run_relation.proofs.Exported.{run_of_end}
use Rattle.tile_top.proofs.tiling.run_tile.Goals as goal

pub returns : goal.returns
returns g c =
    let end = c.end_of_tile-end in
    rw c.status.ensures (run_of_end _ _ _ _ end.result end.ensures.bytes end.ensures.cause end.ensures.untouched c.tell.ensures)
