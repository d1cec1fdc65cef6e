use Rattle.std.proofs.Common.{inl}
use Rattle.survey_sqlite.proofs.Worked.{worked, for_ok}
use Rattle.survey_sqlite.proofs.file_keeper.FileKeeper.cells.Goals as goal

pub returns-in-Ok-clause-shown : goal.returns-in-Ok-clause-shown
returns-in-Ok-clause-shown c = for_ok c.cells_shown-shown.result _ _ c.cells_shown-shown.ensures.cells (λ found shows. worked c.in-Ok.conn c.cells_shown-shown.new.conn c.in-Ok.ensures.worked_on c.put_back.ensures.there c.cells_shown-shown.ensures.still shows)

pub returns-in-Ok-clause-untouched : goal.returns-in-Ok-clause-untouched
returns-in-Ok-clause-untouched c = inl (worked c.in-Ok.conn c.cells_shown-shown.new.conn c.in-Ok.ensures.worked_on c.put_back.ensures.there c.cells_shown-shown.ensures.still c.cells_shown-shown.ensures.kept)
