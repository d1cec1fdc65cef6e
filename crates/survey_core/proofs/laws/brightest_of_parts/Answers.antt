use Rattle.survey_core.proofs.PartLemmas.{best_of_parts_are_best}
use Rattle.survey_core.proofs.laws.brightest_of_parts.Goals as goal

pub returns : goal.returns
returns c = best_of_parts_are_best
