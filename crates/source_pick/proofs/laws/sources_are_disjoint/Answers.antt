use Rattle.source_pick.proofs.NodesSourcing.{sources_are_disjoint, each_entry_holds_a_source}
use Rattle.source_pick.proofs.laws.sources_are_disjoint.Goals as goal

pub returns-clause-disjoint : goal.returns-clause-disjoint
returns-clause-disjoint c = sources_are_disjoint

pub returns-clause-one_in_each : goal.returns-clause-one_in_each
returns-clause-one_in_each c = each_entry_holds_a_source
