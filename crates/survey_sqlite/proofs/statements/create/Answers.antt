use Rattle.std.proofs.Common.{Ok}
use Rattle.sqlite.specs.Held.{state}
use Rattle.survey_sqlite.proofs.Steps.{table_turns}
use Rattle.survey_sqlite.proofs.statements.create.Goals as goal

pub returns-in-Ok-clause-made : goal.returns-in-Ok-clause-made
returns-in-Ok-clause-made g c = table_turns (state g.S.Store c.args.conn.now) (state g.S.Store c.execute.new.self) (Ok c.in-Ok.field-0) c.in-Ok.ensures.runs
