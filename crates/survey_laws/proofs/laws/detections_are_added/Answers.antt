use Rattle.std.proofs.Common.{◌∷◌, map}
use Rattle.survey_laws.specs.Laws.{addition_of}
use Rattle.survey_laws.proofs.Adding.{are_additions}
use Rattle.survey_laws.proofs.laws.detections_are_added.Goals as goal

pub returns : goal.returns
returns c = λ first others rest tables all.
    c.each_add_takes_its_catalogue.ensures.taken (addition_of first) (map addition_of others) rest tables
    (are_additions c.detection_is_accepted.ensures.accepted (first ∷ others) all)
