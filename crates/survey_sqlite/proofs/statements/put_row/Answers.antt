use Rattle.std.proofs.Common.{◌≡◌, ◌∷◌, [], true, subst}
use Rattle.sqlite.specs.declared.types.Value.TheVariants.{Text, Blob}
use Rattle.sqlite.specs.State.{Executes}
use Rattle.sqlite.specs.Held.{state}
use Rattle.survey_core.specs.Fields.{is_name}
use Rattle.survey_sqlite.specs.Statements.{replace_text}
use Rattle.survey_sqlite.proofs.Steps.{replace_turns}
use Rattle.survey_sqlite.proofs.statements.put_row.Goals as goal

pub returns-clause-done : goal.returns-clause-done
returns-clause-done g c =
    let field = c.bytes.ensures.value in
    (replace_turns (state g.S.Store c.args.conn.now) (state g.S.Store c.execute.new.self) c.args.field.now c.args.blob.now c.execute.result
    (subst (λ f. is_name f ≡ true) field c.bytes.ensures.name) c.requires
    (λ clean. subst (λ f. Executes replace_text (Text f ∷ Blob c.args.blob.now ∷ []) (state g.S.Store c.args.conn.now)
    (state g.S.Store c.execute.new.self) c.execute.result) field (c.execute.ensures.runs clean))).0

pub returns-clause-kept : goal.returns-clause-kept
returns-clause-kept g c =
    let field = c.bytes.ensures.value in
    (replace_turns (state g.S.Store c.args.conn.now) (state g.S.Store c.execute.new.self) c.args.field.now c.args.blob.now c.execute.result
    (subst (λ f. is_name f ≡ true) field c.bytes.ensures.name) c.requires
    (λ clean. subst (λ f. Executes replace_text (Text f ∷ Blob c.args.blob.now ∷ []) (state g.S.Store c.args.conn.now)
    (state g.S.Store c.execute.new.self) c.execute.result) field (c.execute.ensures.runs clean))).1
