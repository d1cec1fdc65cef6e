use Rattle.strip_crew.specs.Claims.{run_of}
use Rattle.strip_crew.proofs.Keeping.{has_settled}
use Rattle.strip_crew.proofs.crew.close_crew.Goals as goal

pub returns-clause-settled : goal.returns-clause-settled
returns-clause-settled c = has_settled (run_of c.args.table.shared.key) _ c.args.last.me.0 _ _ c.close_with.ensures.values.2 c.requires.last.4 c.requires.last.3
