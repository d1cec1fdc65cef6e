use Rattle.std.proofs.Common.{length}
use Rattle.node_sums.specs.NodeNumbers.{AreMarked}
use Rattle.node_sums.proofs.numbering.mark_nodes.Given as goal

abbrev pub invariant-loop-i : goal.invariant-loop-i
invariant-loop-i l = AreMarked (length l.fn.numbers) l.nodes l.i l.numbers
