use Rattle.strip_crew.proofs.Listed.{listed}
use Rattle.strip_crew.proofs.laws.each_listed_strip_is_flooded.Goals as goal

pub returns : goal.returns
returns c = listed
