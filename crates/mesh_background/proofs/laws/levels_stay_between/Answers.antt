use Rattle.mesh_background.proofs.Levels.{stay_between}
use Rattle.mesh_background.proofs.laws.levels_stay_between.Goals as goal

pub returns : goal.returns
returns c = stay_between
