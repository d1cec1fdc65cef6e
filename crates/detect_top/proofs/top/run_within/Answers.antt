use Rattle.run_relation.proofs.Exported.{run_of_end}
use Rattle.detect_top.proofs.top.run_within.Goals as goal

pub returns : goal.returns
returns g c =
    let end = c.end_within-end in
    rw c.status.ensures (run_of_end _ _ _ _ end.result end.ensures.bytes end.ensures.cause end.ensures.untouched c.tell.ensures)
