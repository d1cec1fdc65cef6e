use Rattle.std.specs.Prelude.{is_some}
use Rattle.survey_core.specs.Tables.{without_field, cells_of_field}
use Rattle.survey_core.proofs.Keeping.{at_some, stays_at}
use Rattle.survey_core.proofs.Stepping.{there, not_there, not_dropped, becomes_at}
use Rattle.survey_core.proofs.top.remove.Goals as goal

pub returns-in-Ok-false-clause-told : goal.returns-in-Ok-false-clause-told
returns-in-Ok-false-clause-told g c = λ bytes ts told w.
    not_there c.args.field bytes ts _ w c.in-Ok-false.field-0 c.in-Ok-false.field-0-test (at_some _ ts _ told c.in-Ok-false.ensures.found)
    (becomes_at _ _ ts (without_field c.args.field) c.in-Ok-false.ensures.done told)

pub returns-in-Ok-true-clause-told : goal.returns-in-Ok-true-clause-told
returns-in-Ok-true-clause-told g c = λ bytes ts told w.
    there c.args.field bytes ts _ w c.in-Ok-true.field-0 c.in-Ok-true.field-0-test (at_some _ ts _ told c.in-Ok-true.ensures.found)
    (becomes_at _ _ ts (without_field c.args.field) c.in-Ok-true.ensures.done told)

pub returns-in-Err-clause-told : goal.returns-in-Err-clause-told
returns-in-Err-clause-told g c = λ bytes ts told w.
    not_dropped c.args.field bytes ts (is_some (cells_of_field c.args.field ts)) _ w c.in-Err.refused c.at_keeper.result c.at_keeper.ensures
    (stays_at _ _ ts c.in-Err.ensures.kept told)
