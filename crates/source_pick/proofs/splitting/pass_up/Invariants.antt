use Rattle.source_pick.specs.Passes.{ArePassed}
use Rattle.source_pick.proofs.splitting.pass_up.Given as goal

abbrev pub invariant-loop-n : goal.invariant-loop-n
invariant-loop-n l = ArePassed l.tree.rows l.initial.flags l.n l.flags
