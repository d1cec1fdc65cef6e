use Rattle.std.proofs.Common.{inl}
use Rattle.survey_sqlite.proofs.Worked.{worked, on_ok, on_err}
use Rattle.survey_sqlite.proofs.file_keeper.FileKeeper.put.Goals as goal

pub returns-in-Ok-clause-turned : goal.returns-in-Ok-clause-turned
returns-in-Ok-clause-turned c = on_ok c.put_row-done.result _ _ c.put_row-done.ensures.done (λ turns. worked c.in-Ok.conn c.put_row-done.new.conn c.in-Ok.ensures.worked_on c.put_back.ensures.there c.put_row-done.ensures.still turns)

pub returns-in-Ok-clause-untouched : goal.returns-in-Ok-clause-untouched
returns-in-Ok-clause-untouched c = on_err c.put_row-done.result _ _ c.put_row-done.ensures.kept (λ turns. inl (worked c.in-Ok.conn c.put_row-done.new.conn c.in-Ok.ensures.worked_on c.put_back.ensures.there c.put_row-done.ensures.still turns))
