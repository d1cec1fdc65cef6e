use Rattle.std.proofs.Common.{◌∷◌, map}
use Rattle.survey_laws.specs.Laws.{detected_addition}
use Rattle.survey_laws.proofs.Adding.{are_detected}
use Rattle.survey_laws.proofs.laws.surveys_have_what_is_detected.Goals as goal

pub returns : goal.returns
returns c = λ limits first others words commands rest tables all is.
    c.each_add_takes_its_catalogue.ensures.found (detected_addition limits first) (map (detected_addition limits) others) words commands rest tables
    (are_detected c.answer_is_accepted.ensures.accepted limits (first ∷ others) all) is
