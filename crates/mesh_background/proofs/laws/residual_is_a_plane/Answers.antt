use Rattle.mesh_background.proofs.Residuals.{is_plane, in_range}
use Rattle.mesh_background.proofs.laws.residual_is_a_plane.Goals as goal

pub returns-clause-one_each : goal.returns-clause-one_each
returns-clause-one_each c = is_plane

pub returns-clause-in_range : goal.returns-clause-in_range
returns-clause-in_range c = in_range
