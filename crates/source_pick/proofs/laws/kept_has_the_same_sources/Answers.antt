use Rattle.source_pick.proofs.LocalityKeeping.{kept_is_a_plane, kept_has_the_same_sources}
use Rattle.source_pick.proofs.laws.kept_has_the_same_sources.Goals as goal

pub returns-clause-plane : goal.returns-clause-plane
returns-clause-plane c = kept_is_a_plane

pub returns-clause-same : goal.returns-clause-same
returns-clause-same c = kept_has_the_same_sources
