use Rattle.strip_crew.proofs.Core.{core_ends}
use Rattle.strip_crew.proofs.laws.each_strip_is_flooded_once.Goals as goal

pub returns : goal.returns
returns c = core_ends
