use Rattle.survey_core.proofs.Adding.{each_add, commands_behind}
use Rattle.survey_core.proofs.laws.each_add_takes_its_catalogue.Goals as goal

pub returns : goal.returns
returns c = record { taken = each_add; found = commands_behind }
