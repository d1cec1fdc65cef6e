use Rattle.survey_laws.proofs.Answering.{answer_accepted, done_of_image}
use Rattle.survey_laws.proofs.laws.answer_is_accepted.Goals as goal

pub returns-clause-accepted : goal.returns-clause-accepted
returns-clause-accepted c = answer_accepted c.detection_is_accepted.ensures.accepted c.residual_is_a_plane.ensures.one_each c.residual_is_a_plane.ensures.in_range

pub returns-clause-done : goal.returns-clause-done
returns-clause-done c = done_of_image
