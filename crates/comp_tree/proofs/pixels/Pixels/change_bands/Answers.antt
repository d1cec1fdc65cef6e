use Rattle.std.proofs.Common.{arith}
use Rattle.comp_tree.specs.Numbers.{most_short}
use Rattle.comp_tree.proofs.Values.{within_more}
use Rattle.comp_tree.proofs.pixels.Pixels.change_bands.Goals as goal

pub change_if_short-requires-clause-within : goal.change_if_short-requires-clause-within
change_if_short-requires-clause-within g c = λ start band after chunk call p v e.
    within_more c.args.most most_short v (omega (arith, c.if-most-lt-SHORT_END.true)) (c.requires.within start band after chunk call p v e)
