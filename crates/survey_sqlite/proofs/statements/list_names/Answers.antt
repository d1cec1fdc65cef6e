use Rattle.std.proofs.Common.{[]}
use Rattle.sqlite.specs.Held.{state}
use Rattle.survey_sqlite.specs.Queries.{names_text}
use Rattle.survey_sqlite.proofs.Compiled.{names_plain}
use Rattle.survey_sqlite.proofs.Steps.{names_turn, query_turns}
use Rattle.survey_sqlite.proofs.statements.list_names.Goals as goal

pub returns-clause-names : goal.returns-clause-names
returns-clause-names g c =
    names_turn (λ rows. rows.items) (state g.S.Store c.args.conn.now) (state g.S.Store c.query_all.new.self) c.query_all.result c.query_all.ensures.ok

pub returns-clause-kept : goal.returns-clause-kept
returns-clause-kept g c =
    query_turns (λ rows. rows.items) (state g.S.Store c.args.conn.now)
    (state g.S.Store c.query_all.new.self) names_text [] c.query_all.result names_plain c.query_all.ensures.ok c.query_all.ensures.err
