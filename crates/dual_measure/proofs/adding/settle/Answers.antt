use Rattle.std.proofs.Common.{◌∙◌, sym, arith}
use Rattle.dual_measure.specs.Adding.{settled_measure}
use Rattle.dual_measure.proofs.Passing.{front_unchanged, front_mapped, settle_next}
use Rattle.dual_measure.proofs.adding.settle.Goals as goal

pub loop-n-init : goal.loop-n-init
loop-n-init c = sym (front_unchanged settled_measure c.args.entries.now)

pub loop-n-preserved : goal.loop-n-preserved
loop-n-preserved c = settle_next settled_measure _ _ _ _ _ c.loop-n.invariant (omega arith) c.settled.ensures

pub returns : goal.returns
returns c = c.loop-n.invariant ∙ front_mapped settled_measure c.loop-n.n c.args.entries.now (omega arith)
