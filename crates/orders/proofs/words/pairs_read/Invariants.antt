-- So many pairs of a name and a value are read, and none of them is at fault.
use Rattle.std.proofs.Common.{◌≤◌, ◌-◌, ◌*◌, ◌+◌, length}
use Rattle.command_line.specs.Lines.{texts}
use Rattle.orders.specs.Options.{settings}
use Rattle.orders.specs.Given.{AreRead}
use Rattle.orders.proofs.words.pairs_read.Given as goal

abbrev pub invariant-loop-pairs : goal.invariant-loop-pairs
invariant-loop-pairs l = record { read : AreRead l.most l.command (texts l.words) l.pairs; few : l.pairs ≤ length settings }

abbrev pub decreases-loop-pairs : goal.decreases-loop-pairs
decreases-loop-pairs l = length l.words - (2 * l.pairs + 1)
