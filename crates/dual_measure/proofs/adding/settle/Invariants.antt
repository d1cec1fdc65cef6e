use Rattle.std.proofs.Common.{◌≡◌}
use Rattle.dual_measure.specs.Adding.{settled_measure}
use Rattle.dual_measure.proofs.Passing.{map_front}
use Rattle.dual_measure.proofs.adding.settle.Given as goal

abbrev pub invariant-loop-n : goal.invariant-loop-n
invariant-loop-n l = l.entries ≡ map_front settled_measure l.n l.fn.entries
