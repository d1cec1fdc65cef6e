use Rattle.source_pick.proofs.Locality.{sources_are_local}
use Rattle.source_pick.proofs.laws.sources_are_local.Goals as goal

pub returns : goal.returns
returns c = sources_are_local
