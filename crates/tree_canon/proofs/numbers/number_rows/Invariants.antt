use Rattle.tree_canon.proofs.Numbering.{IsNumberedTo}
use Rattle.tree_canon.proofs.numbers.number_rows.Given as goal

abbrev pub invariant-loop-n : goal.invariant-loop-n
invariant-loop-n l = IsNumberedTo l.rows l.fn.numbers l.numbers l.n
