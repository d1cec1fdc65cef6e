use Rattle.source_pick.proofs.Windows.{sure_sources_are_seen, seen_sources_are_sure}
use Rattle.source_pick.proofs.laws.sources_of_windows.Goals as goal

pub returns : goal.returns
returns c = record { seen = sure_sources_are_seen; sure = seen_sources_are_sure }
