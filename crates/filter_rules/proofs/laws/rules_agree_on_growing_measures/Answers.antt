use Rattle.filter_rules.proofs.Agreeing.{rules_agree}
use Rattle.filter_rules.proofs.laws.rules_agree_on_growing_measures.Goals as goal

pub returns : goal.returns
returns c = rules_agree
