use Rattle.tree_canon.proofs.SettingParents.{IsSetBy}
use Rattle.tree_canon.proofs.rows.set_parents.Given as goal

abbrev pub invariant-loop-p : goal.invariant-loop-p
invariant-loop-p l = IsSetBy l.links l.numbers l.pixels l.fn.rows l.rows l.p-index
