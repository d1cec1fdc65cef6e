-- Catalogues one behind the other are added.
use Rattle.std.proofs.Common.{List, [], ◌∷◌, map}
use Rattle.std.specs.List.{AllByRecursion}
use Rattle.survey_core.specs.Additions.{IsAddition}
use Rattle.pixel_plane.specs.declared.limits.Limits.{Limits}
use Rattle.survey_laws.specs.Laws.{DetectionIsAccepted, AnswerIsAccepted, Observed, IsTakeable, addition_of, DetectRun, IsDetectRun, detected_addition}

pub are_additions : DetectionIsAccepted → (ds : List Observed) → AllByRecursion IsTakeable ds → AllByRecursion IsAddition (map addition_of ds)
are_additions law [] all = tt
are_additions law (d ∷ ds) all =
    (record { named = all.0.named; taken = λ rest. law d.plane d.connect d.choice rest all.0.plane all.0.few }, are_additions law ds all.1)

pub are_detected : AnswerIsAccepted → (limits : Limits) (ds : List DetectRun) → AllByRecursion (IsDetectRun limits) ds
    → AllByRecursion IsAddition (map (detected_addition limits) ds)
are_detected law limits [] all = tt
are_detected law limits (d ∷ ds) all =
    let is = all.0 in
    let image = is.image_is in (
      record {
        named = is.named;
        taken = λ rest. (law limits d.words d.bytes rest d.order d.choice d.plane image.head image.end is.order_is is.job_is image.is is.few).1;
      },
      are_detected law limits ds all.1,
    )
