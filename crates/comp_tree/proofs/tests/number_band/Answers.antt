use Rattle.comp_tree.proofs.Values.{within-set, some_within}
use Rattle.comp_tree.proofs.tests.number_band.Goals as goal
use Rattle.std.proofs.Common.{◌^◌}

pub loop-k-preserved : goal.loop-k-preserved
loop-k-preserved c =
    within-set c.args._most c.loop-k.band c.loop-k.k c.numbered.result c.loop-k.invariant
    (some_within (2 ^ 24) c.args._most c.numbered.result c.requires.room c.numbered.ensures)
