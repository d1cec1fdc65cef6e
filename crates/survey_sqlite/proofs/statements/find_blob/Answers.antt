use Rattle.std.proofs.Common.{◌∷◌, [], subst, IfOk}
use Rattle.sqlite.specs.declared.types.Value.TheVariants.{Text}
use Rattle.sqlite.specs.State.{Shown}
use Rattle.sqlite.specs.Held.{state}
use Rattle.survey_sqlite.specs.Queries.{rows_text}
use Rattle.survey_sqlite.proofs.Compiled.{rows_plain}
use Rattle.survey_sqlite.proofs.Steps.{rows_turn, query_turns}
use Rattle.survey_sqlite.proofs.statements.find_blob.Goals as goal

pub returns-clause-cells : goal.returns-clause-cells
returns-clause-cells g c =
    rows_turn (λ rows. rows.items) (state g.S.Store c.args.conn.now) (state g.S.Store c.query_all.new.self) c.args.field.now c.query_all.result
    (λ clean. subst (λ f. IfOk c.query_all.result
    (λ rows. Shown rows_text (Text f ∷ []) (state g.S.Store c.args.conn.now) (state g.S.Store c.query_all.new.self) rows.items)) c.bytes.ensures.value
    (c.query_all.ensures.ok clean))

pub returns-clause-kept : goal.returns-clause-kept
returns-clause-kept g c =
    query_turns (λ rows. rows.items) (state g.S.Store c.args.conn.now) (state g.S.Store c.query_all.new.self) rows_text
    (Text c.bytes.result.now ∷ []) c.query_all.result rows_plain
    c.query_all.ensures.ok c.query_all.ensures.err
