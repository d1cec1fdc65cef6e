use Rattle.source_pick.specs.Clearing.{HasNoneBelow}
use Rattle.source_pick.proofs.clearing.has_below.Given as goal

abbrev pub invariant-loop-p : goal.invariant-loop-p
invariant-loop-p l = HasNoneBelow l.plane l.threshold l.p
