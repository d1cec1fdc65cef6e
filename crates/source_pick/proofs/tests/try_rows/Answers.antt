use Rattle.node_sums.proofs.Exported.{sums_of_one}
use Rattle.source_pick.proofs.tests.try_rows.Goals as goal

pub numbers_of-row-requires-clause-sums : goal.numbers_of-row-requires-clause-sums
numbers_of-row-requires-clause-sums g c = sums_of_one c.args.tree.now c.args.picked.now c.args.sums.now c.loop-i.i-counter _ c.requires c.loop-i-test.true
