-- The first n bands are changed, and the others are as they were.
use Rattle.comp_tree.specs.ShortBands.{AreChangedUpTo}
use Rattle.std.proofs.Common.{◌*◌}
use Rattle.comp_tree.proofs.kept.change_in_turn.Given as goal

abbrev pub invariant-loop-n : goal.invariant-loop-n
invariant-loop-n g l = AreChangedUpTo g.F.Fn l.change l.size (l.n * l.size) l.fn.pixels l.pixels
