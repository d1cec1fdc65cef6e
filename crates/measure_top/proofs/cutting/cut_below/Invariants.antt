use Rattle.measure_top.specs.Picks.{IsCutUpTo}
use Rattle.measure_top.proofs.cutting.cut_below.Given as goal

abbrev pub invariant-loop-p : goal.invariant-loop-p
invariant-loop-p l = IsCutUpTo l.fn.plane l.level l.p l.plane
