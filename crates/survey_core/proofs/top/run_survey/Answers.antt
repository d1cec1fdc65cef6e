use Rattle.command_line.specs.Lines.{texts}
use Rattle.survey_core.proofs.RunEnds.{run_told}
use Rattle.survey_core.proofs.top.run_survey.Goals as goal

pub returns : goal.returns
returns g c =
    run_told (texts c.args.words.now) c.status.result _ _ _ _ _ _ _ _ c.work-end.result c.work-end.ensures.told c.work-end.ensures.cause
    c.work-end.ensures.input_stays c.work-end.ensures.keeper_stays c.work-end.ensures.output_stays c.tell.ensures c.status.ensures
