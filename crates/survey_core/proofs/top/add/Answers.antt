use Rattle.std.proofs.Common.{◌∙◌, Some, ap}
use Rattle.survey_core.specs.Tables.{put}
use Rattle.survey_core.specs.Catalogues.{catalogue_in}
use Rattle.survey_core.proofs.Keeping.{stays_at}
use Rattle.survey_core.proofs.Stepping.{accepts, rejects, refuses, becomes_at}
use Rattle.survey_core.proofs.top.add.Goals as goal

pub returns-in-Err-clause-told : goal.returns-in-Err-clause-told
returns-in-Err-clause-told g c =
    λ bytes e ts told w. rejects c.args.field bytes ts (catalogue_in bytes) _ _ w c.in-Err.stop (c.in-Err.ensures.told bytes e) told

pub returns-in-Ok-replace-clause-told : goal.returns-in-Ok-replace-clause-told
returns-in-Ok-replace-clause-told g c = λ bytes e ts told w.
    accepts c.args.field bytes ts (catalogue_in bytes) _ _ w c.in-Ok.cells.items (c.in-Ok.ensures.told bytes e)
    (becomes_at _ _ ts (put c.args.field c.deref.result.now) c.in-Ok-replace.ensures.done told
    ∙ ap (λ cells. Some (put c.args.field cells ts)) c.deref.ensures.value)

pub returns-clause-told : goal.returns-clause-told
returns-clause-told g c = λ bytes e ts told w.
    refuses c.args.field bytes ts (catalogue_in bytes) _ _ w c.in-Ok.cells.items c.in-Err-replace.refused c.at_keeper.result c.at_keeper.ensures
    (c.in-Ok.ensures.told bytes e) (stays_at _ _ ts c.in-Err-replace.ensures.kept told)
