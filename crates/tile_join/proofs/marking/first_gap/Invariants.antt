use Rattle.std.proofs.Common.{ℕ, ◌<◌, get_or}
use Rattle.tile_join.proofs.marking.first_gap.Given as goal

abbrev pub invariant-loop-p : goal.invariant-loop-p
invariant-loop-p l = (k : ℕ) → k < l.p → 0 < get_or l.marks k 0
