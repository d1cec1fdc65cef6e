use Rattle.mesh_background.proofs.Levels.{level_is_weighed, weights_come_to_all}
use Rattle.mesh_background.proofs.laws.level_is_a_weighted_mean.Goals as goal

pub returns-clause-quotient : goal.returns-clause-quotient
returns-clause-quotient c = level_is_weighed

pub returns-clause-weights : goal.returns-clause-weights
returns-clause-weights c = weights_come_to_all
