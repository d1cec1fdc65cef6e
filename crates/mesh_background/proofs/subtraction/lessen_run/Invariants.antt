use Rattle.mesh_background.specs.Lessened.{IsLessened}
use Rattle.mesh_background.proofs.subtraction.lessen_run.Given as goal

abbrev pub invariant-loop-x : goal.invariant-loop-x
invariant-loop-x l = IsLessened l.fn.row (λ _. l.number) l.first l.x l.row
