use Rattle.survey_core.proofs.TableLaws.{unnamed_stay, last_add, last_drop, stops_behind}
use Rattle.survey_core.proofs.laws.last_command_counts.Goals as goal

pub returns : goal.returns
returns c = record { unnamed = unnamed_stay; added = last_add; dropped = last_drop; stopped = stops_behind }
