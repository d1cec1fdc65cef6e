use Rattle.source_pick.proofs.NodesEntries.{entries_are_disjoint}
use Rattle.source_pick.proofs.laws.entries_are_disjoint.Goals as goal

pub returns : goal.returns
returns c = entries_are_disjoint
