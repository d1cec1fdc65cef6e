use Rattle.std.proofs.Common.{map, ap, ◌∙◌}
use Rattle.sqlite.specs.Held.{state}
use Rattle.survey_sqlite.specs.Rows.{text_in}
use Rattle.survey_sqlite.specs.Steps.{tables_of}
use Rattle.survey_sqlite.proofs.Kept.{names_read}
use Rattle.survey_sqlite.proofs.shown.names_shown.Goals as goal

pub returns-in-Ok-read_names-clause-names : goal.returns-in-Ok-read_names-clause-names
returns-in-Ok-read_names-clause-names g c = λ clean rest.
    c.in-Ok-read_names.ensures.names ∙ ap (map text_in) (c.deref.ensures.value ∙ c.in-Ok.ensures.names clean rest)
    ∙ names_read (tables_of (state g.S.Store c.args.conn.now))
