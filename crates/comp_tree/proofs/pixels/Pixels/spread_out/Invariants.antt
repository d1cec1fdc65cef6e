use Rattle.std.proofs.Common.{◌≡◌, take}
use Rattle.comp_tree.proofs.pixels.Pixels.spread_out.Given as goal

abbrev pub invariant-loop-p : goal.invariant-loop-p
invariant-loop-p l = l.pixels.items ≡ take l.p l.self
