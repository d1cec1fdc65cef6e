use Rattle.std.proofs.Common.{◌∷◌, [], subst}
use Rattle.sqlite.specs.declared.types.Value.TheVariants.{Text}
use Rattle.sqlite.specs.State.{Executes}
use Rattle.sqlite.specs.Held.{state}
use Rattle.survey_sqlite.specs.Statements.{remove_text}
use Rattle.survey_sqlite.proofs.Steps.{remove_turns}
use Rattle.survey_sqlite.proofs.statements.remove_row.Goals as goal

pub returns-clause-done : goal.returns-clause-done
returns-clause-done g c =
    (remove_turns (state g.S.Store c.args.conn.now) (state g.S.Store c.execute.new.self) c.args.field.now c.execute.result
    (λ clean. subst (λ f. Executes remove_text (Text f ∷ []) (state g.S.Store c.args.conn.now)
    (state g.S.Store c.execute.new.self) c.execute.result) c.bytes.ensures.value (c.execute.ensures.runs clean))).0

pub returns-clause-found : goal.returns-clause-found
returns-clause-found g c =
    (remove_turns (state g.S.Store c.args.conn.now) (state g.S.Store c.execute.new.self) c.args.field.now c.execute.result
    (λ clean. subst (λ f. Executes remove_text (Text f ∷ []) (state g.S.Store c.args.conn.now)
    (state g.S.Store c.execute.new.self) c.execute.result) c.bytes.ensures.value (c.execute.ensures.runs clean))).1

pub returns-clause-kept : goal.returns-clause-kept
returns-clause-kept g c =
    (remove_turns (state g.S.Store c.args.conn.now) (state g.S.Store c.execute.new.self) c.args.field.now c.execute.result
    (λ clean. subst (λ f. Executes remove_text (Text f ∷ []) (state g.S.Store c.args.conn.now)
    (state g.S.Store c.execute.new.self) c.execute.result) c.bytes.ensures.value (c.execute.ensures.runs clean))).2
