use Rattle.std.proofs.Common.{◌+◌, ◌*◌, length}
use Rattle.strip_crew.proofs.group.+halves.Given as goal

abbrev pub decreases-join_strips : goal.decreases-join_strips
decreases-join_strips g l = 4 * length l.group.now.rows.now

abbrev pub decreases-join_halves : goal.decreases-join_halves
decreases-join_halves g l = 4 * (length l.first.now.rows.now + length l.second.now.rows.now) + 2

abbrev pub decreases-join_halves-join_above : goal.decreases-join_halves-join_above
decreases-join_halves-join_above g l = 4 * length l.first.now.rows.now + 1

abbrev pub decreases-join_halves-join_below : goal.decreases-join_halves-join_below
decreases-join_halves-join_below g l = 4 * length l.second.now.rows.now + 1
