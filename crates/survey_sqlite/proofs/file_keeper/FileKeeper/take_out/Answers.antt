use Rattle.std.proofs.Common.{inl}
use Rattle.survey_sqlite.proofs.Worked.{worked, on_ok, on_err, for_ok}
use Rattle.survey_sqlite.proofs.file_keeper.FileKeeper.take_out.Goals as goal

pub returns-in-Ok-clause-turned : goal.returns-in-Ok-clause-turned
returns-in-Ok-clause-turned c = on_ok c.remove_row-done.result _ _ c.remove_row-done.ensures.done (λ turns. worked c.in-Ok.conn c.remove_row-done.new.conn c.in-Ok.ensures.worked_on c.put_back.ensures.there c.remove_row-done.ensures.still turns)

pub returns-in-Ok-clause-found : goal.returns-in-Ok-clause-found
returns-in-Ok-clause-found c = for_ok c.remove_row-done.result _ _ c.remove_row-done.ensures.found (λ count found. worked c.in-Ok.conn c.remove_row-done.new.conn c.in-Ok.ensures.worked_on c.put_back.ensures.there c.remove_row-done.ensures.still found)

pub returns-in-Ok-clause-untouched : goal.returns-in-Ok-clause-untouched
returns-in-Ok-clause-untouched c = on_err c.remove_row-done.result _ _ c.remove_row-done.ensures.kept (λ turns. inl (worked c.in-Ok.conn c.remove_row-done.new.conn c.in-Ok.ensures.worked_on c.put_back.ensures.there c.remove_row-done.ensures.still turns))
