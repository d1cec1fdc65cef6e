use Rattle.mesh_background.proofs.Levels.{between_centres}
use Rattle.mesh_background.proofs.laws.pixels_lie_between_centres.Goals as goal

pub returns : goal.returns
returns c = between_centres
