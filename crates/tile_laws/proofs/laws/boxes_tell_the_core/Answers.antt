use Rattle.tile_laws.proofs.NodeBoxes.{boxes_tell_the_core, known_cores_are_answered}
use Rattle.tile_laws.proofs.laws.boxes_tell_the_core.Goals as goal

pub returns : goal.returns
returns c = record { told = boxes_tell_the_core; answered = known_cores_are_answered }
