use Rattle.strip_crew.proofs.Core.{core_law}
use Rattle.strip_crew.proofs.laws.each_schedule_keeps_the_rule.Goals as goal

pub returns : goal.returns
returns c = core_law
