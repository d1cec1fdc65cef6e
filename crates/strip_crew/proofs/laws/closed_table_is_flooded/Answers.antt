use Rattle.strip_crew.proofs.Keeping.{settles}
use Rattle.strip_crew.proofs.laws.closed_table_is_flooded.Goals as goal

pub returns : goal.returns
returns c = settles
