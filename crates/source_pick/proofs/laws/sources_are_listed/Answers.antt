use Rattle.source_pick.proofs.OrderListing.{sources_are_listed, sources_are_in_order}
use Rattle.source_pick.proofs.laws.sources_are_listed.Goals as goal

pub returns-clause-listed : goal.returns-clause-listed
returns-clause-listed c = sources_are_listed

pub returns-clause-in_order : goal.returns-clause-in_order
returns-clause-in_order c = sources_are_in_order
