use Rattle.std.proofs.Common.{inl}
use Rattle.survey_sqlite.proofs.Worked.{worked, for_ok}
use Rattle.survey_sqlite.proofs.file_keeper.FileKeeper.fields.Goals as goal

pub returns-in-Ok-clause-shown : goal.returns-in-Ok-clause-shown
returns-in-Ok-clause-shown c = for_ok c.names_shown-shown.result _ _ c.names_shown-shown.ensures.names (λ found shows. worked c.in-Ok.conn c.names_shown-shown.new.conn c.in-Ok.ensures.worked_on c.put_back.ensures.there c.names_shown-shown.ensures.still shows)

pub returns-in-Ok-clause-untouched : goal.returns-in-Ok-clause-untouched
returns-in-Ok-clause-untouched c = inl (worked c.in-Ok.conn c.names_shown-shown.new.conn c.in-Ok.ensures.worked_on c.put_back.ensures.there c.names_shown-shown.ensures.still c.names_shown-shown.ensures.kept)
